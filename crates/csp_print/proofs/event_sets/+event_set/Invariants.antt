use Rattle.std.proofs.Common.{◌+◌, ◌*◌}
use Rattle.theory_semantics.specs.Meaning.Limits.{event_set_size}
use Rattle.csp_events.specs.Events.{event_set_of}
use Rattle.csp_print.proofs.event_sets.+event_set.Given as goal

abbrev pub decreases-push_event_set : goal.decreases-push_event_set
decreases-push_event_set g l = 2 * event_set_size (event_set_of l.set.now)

abbrev pub decreases-push_combined : goal.decreases-push_combined
decreases-push_combined g l = 2 * (event_set_size (event_set_of l.left.now) + event_set_size (event_set_of l.right.now)) + 1
