use Rattle.std.proofs.Common.{◌+◌, ◌*◌}
use Rattle.csp_moves.specs.Origin.{origin_of}
use Rattle.counterexample.proofs.Sizes.{origin_size}
use Rattle.counterexample.proofs.origin_text.+origin.Given as goal

abbrev pub decreases-push_origin : goal.decreases-push_origin
decreases-push_origin g l = 3 * origin_size (origin_of l.origin.now)

abbrev pub decreases-push_below : goal.decreases-push_below
decreases-push_below g l = 3 * origin_size (origin_of l.part.now) + 2

abbrev pub decreases-push_below_side : goal.decreases-push_below_side
decreases-push_below_side g l = 3 * origin_size (origin_of l.part.now) + 1

abbrev pub decreases-push_below_branch : goal.decreases-push_below_branch
decreases-push_below_branch g l = 3 * origin_size (origin_of l.part.now) + 1
