use Rattle.std.proofs.Common.{◌+◌, ◌*◌}
use Rattle.csp_moves.specs.Origin.{origin_of}
use Rattle.counterexample.proofs.Sizes.{origin_size}
use Rattle.counterexample.proofs.doers.+doers.Given as goal

abbrev pub decreases-doers_in : goal.decreases-doers_in
decreases-doers_in g l = 3 * origin_size (origin_of l.origin.now)

abbrev pub decreases-doers_below : goal.decreases-doers_below
decreases-doers_below g l = 3 * origin_size (origin_of l.part.now) + 2

abbrev pub decreases-doers_on : goal.decreases-doers_on
decreases-doers_on g l = 3 * origin_size (origin_of l.part.now) + 1
