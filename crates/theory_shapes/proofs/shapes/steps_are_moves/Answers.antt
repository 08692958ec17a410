use Rattle.std.proofs.Common.{arith}
use Rattle.theory_shapes.proofs.Moving.{moves_exact}
use Rattle.theory_shapes.proofs.shapes.steps_are_moves.Goals as goal

pub returns : goal.returns
returns c = λ script s parts known each. moves_exact script 0 s parts known (λ i lo hi. each i (omega (arith, hi)))
