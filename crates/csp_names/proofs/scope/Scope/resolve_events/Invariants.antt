use Rattle.theory_checking.specs.Resolving as resolving
use Rattle.theory_checking.specs.Sites.{in_event}
use Rattle.csp_parse.specs.Events.{event_of}
use Rattle.csp_events.specs.Events.{event_expression_of}
use Rattle.csp_names.proofs.Resolves.{SoFar}
use Rattle.csp_names.proofs.scope.Scope.resolve_events.Given as goal

abbrev pub invariant-loop-event : goal.invariant-loop-event
invariant-loop-event g l = SoFar l.self l.bound event_of in_event resolving.event_of event_expression_of l.events l.event-index l.resolved.items
