-- Nothing is done.
use Rattle.std.proofs.Common.{[], refl}
use Rattle.theory_syntax.specs.Process.{Omega, Stop}
use Rattle.theory_origins.proofs.LeafWays.{omega_ways, stop_ways}
use Rattle.csp_moves.proofs.Found.{found_all}
use Rattle.csp_moves.proofs.leaf.idle_ways.Goals as goal

pub returns : goal.returns
returns g c = record {
  stop = λ x t. found_all Stop x t c.no_ways.result _ [] c.no_ways.ensures refl (λ s. stop_ways s x t);
  ended = λ x t. found_all Omega x t c.no_ways.result _ [] c.no_ways.ensures refl (λ s. omega_ways s x t);
}
