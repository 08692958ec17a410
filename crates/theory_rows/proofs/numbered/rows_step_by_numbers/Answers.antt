use Rattle.theory_rows.proofs.Targets.{row_step_leads, row_steps_are}
use Rattle.theory_rows.proofs.numbered.rows_step_by_numbers.Goals as goal

pub returns : goal.returns
returns c = record {
  steps = λ script t r k are is known. row_steps_are script t r k are is known;
  rows = λ script t r k x gs n are is known has few numbered. row_step_leads script t r k are is known x gs n has few numbered;
}
