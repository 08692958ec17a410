use Rattle.theory_rows.proofs.Targets.{parts_made, row_made, shape_made}
use Rattle.theory_rows.proofs.numbered.rows_lead_to_rows.Goals as goal

pub returns : goal.returns
returns c = record {
  shape = λ t r gs are within. shape_made t are r gs within;
  parts = λ t r gs are within. parts_made t are r gs within;
  row = λ t r gs d n are is within told few numbered. row_made t are r gs d n is within told few numbered;
}
