use Rattle.csp_moves.specs.Origin.{origin_of}
use Rattle.counterexample.proofs.Sizes.{origin_size}
use Rattle.counterexample.proofs.unfolded.+unfolded.Given as goal

abbrev pub decreases-unfolded_in : goal.decreases-unfolded_in
decreases-unfolded_in g l = origin_size (origin_of l.origin.now)
