-- The only steps are taus.
use Rattle.std.proofs.Common.{[], refl}
use Rattle.theory_syntax.specs.Process.{InternalChoice}
use Rattle.theory_origins.proofs.OperandWays.{no_visible_choice_ways}
use Rattle.csp_moves.proofs.Found.{found_in}
use Rattle.csp_moves.proofs.choice.internal_by_visible.Goals as goal

pub returns : goal.returns
returns g c = λ s p q x t seen. found_in s (InternalChoice p q) x t c.no_ways.result _ [] c.no_ways.ensures refl (no_visible_choice_ways s p q t x seen)
