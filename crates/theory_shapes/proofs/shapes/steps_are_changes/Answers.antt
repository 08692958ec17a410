use Rattle.theory_shapes.proofs.Told.{all_told, moves_as_changes, steps_told}
use Rattle.theory_shapes.proofs.shapes.steps_are_changes.Goals as goal

pub returns : goal.returns
returns c = record {
  moves = λ script s parts known. moves_as_changes script 0 s parts known;
  steps = λ script s parts known long are. steps_told script s parts known long are;
  all = λ script s parts known ms long are is. all_told script s parts known long are ms is;
}
