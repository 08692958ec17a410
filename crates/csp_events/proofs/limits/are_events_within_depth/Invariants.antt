use Rattle.csp_value.proofs.Walking.{Decides}
use Rattle.csp_events.proofs.EventMeasures.{event_depths}
use Rattle.csp_events.proofs.limits.are_events_within_depth.Given as goal

abbrev pub invariant-loop-event : goal.invariant-loop-event
invariant-loop-event g l = Decides event_depths l.events l.most l.event-index
