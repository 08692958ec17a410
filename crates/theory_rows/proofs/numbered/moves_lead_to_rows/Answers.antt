use Rattle.theory_rows.proofs.Leading.{to_apart, to_move, to_parts}
use Rattle.theory_rows.proofs.numbered.moves_lead_to_rows.Goals as goal

pub returns : goal.returns
returns c = record {
  holes = λ d s parts long. (to_move d s parts long).0;
  filled = λ d s parts long. (to_move d s parts long).1;
  parts = to_parts;
  apart = to_apart;
}
