use Rattle.csp_moves.specs.Origin.{origin_of}
use Rattle.counterexample.proofs.Sizes.{origin_size}
use Rattle.counterexample.proofs.kind.+kind.Given as goal

abbrev pub decreases-kind_in : goal.decreases-kind_in
decreases-kind_in g l = origin_size (origin_of l.origin.now)
