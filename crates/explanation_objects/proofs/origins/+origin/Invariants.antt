use Rattle.std.proofs.Common.{◌+◌, ◌*◌}
use Rattle.csp_moves.specs.Origin.{origin_of}
use Rattle.counterexample.proofs.Sizes.{origin_size}
use Rattle.explanation_objects.proofs.origins.+origin.Given as goal

abbrev pub decreases-put_origin : goal.decreases-put_origin
decreases-put_origin g l = 3 * origin_size (origin_of l.origin.now)

abbrev pub decreases-put_below : goal.decreases-put_below
decreases-put_below g l = 3 * origin_size (origin_of l.part.now) + 2

abbrev pub decreases-put_on_side : goal.decreases-put_on_side
decreases-put_on_side g l = 3 * origin_size (origin_of l.part.now) + 1
