use Rattle.csp_events.specs.Events.{event_expression_of}
use Rattle.theory_spelling.specs.Spelling.{event_spelling}
use Rattle.theory_spelling.specs.Ranges.{IsInRangeEvent}
use Rattle.csp_spell.proofs.Pushing.{Put, Gone}
use Rattle.csp_spell.proofs.events.push_events.Given as goal

abbrev pub invariant-loop-event : goal.invariant-loop-event
invariant-loop-event g l = Put event_spelling event_expression_of l.events l.fn.bytes.items l.bytes.items l.event-index × Gone IsInRangeEvent event_expression_of l.events l.event-index
