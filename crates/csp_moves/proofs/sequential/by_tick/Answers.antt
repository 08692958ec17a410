-- No tick is seen.
use Rattle.std.proofs.Common.{[], refl}
use Rattle.theory_syntax.specs.Value.{Tick}
use Rattle.theory_syntax.specs.Process.{Sequential}
use Rattle.theory_origins.proofs.OperandWays.{sequential_tick_ways}
use Rattle.csp_moves.proofs.Found.{found_in}
use Rattle.csp_moves.proofs.sequential.by_tick.Goals as goal

pub returns : goal.returns
returns g c = λ s p q t. found_in s (Sequential p q) Tick t c.no_ways.result _ [] c.no_ways.ensures refl (sequential_tick_ways s p q t)
