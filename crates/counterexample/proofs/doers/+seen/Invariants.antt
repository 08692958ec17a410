use Rattle.std.proofs.Common.{◌+◌, ◌*◌}
use Rattle.csp_moves.specs.Origin.{origin_of}
use Rattle.counterexample.proofs.Sizes.{origin_size}
use Rattle.counterexample.proofs.doers.+seen.Given as goal

abbrev pub decreases-event_in : goal.decreases-event_in
decreases-event_in g l = 2 * origin_size (origin_of l.origin.now)

abbrev pub decreases-event_above : goal.decreases-event_above
decreases-event_above g l = 2 * origin_size (origin_of l.part.now) + 1
