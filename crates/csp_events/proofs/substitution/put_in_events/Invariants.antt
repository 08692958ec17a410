use Rattle.std.proofs.Common.{◌≡◌, take}
use Rattle.theory_semantics.specs.Meaning.Substitution.{put_events}
use Rattle.csp_expression.specs.Bindings.{bindings_of}
use Rattle.csp_events.specs.Events.{event_expressions_of}
use Rattle.csp_events.proofs.substitution.put_in_events.Given as goal

abbrev pub invariant-loop-event : goal.invariant-loop-event
invariant-loop-event g l = event_expressions_of l.all.items ≡ put_events (bindings_of l.bindings) (event_expressions_of (take l.event-index l.events))
