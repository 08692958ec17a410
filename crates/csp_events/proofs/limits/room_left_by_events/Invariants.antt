use Rattle.csp_value.proofs.Walking.{Left}
use Rattle.csp_events.proofs.EventMeasures.{event_sizes}
use Rattle.csp_events.proofs.limits.room_left_by_events.Given as goal

abbrev pub invariant-loop-event : goal.invariant-loop-event
invariant-loop-event g l = Left event_sizes l.events l.room l.event-index l.rest
