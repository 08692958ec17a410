-- What is left decides.
use Rattle.theory_faults.specs.Events.{event_culprit}
use Rattle.csp_events.specs.Events.{event_expression_of}
use Rattle.csp_term.specs.Script.{script_of_parts}
use Rattle.csp_faults.proofs.Found.{Rests}
use Rattle.csp_faults.proofs.events.enumeration_culprit.Given as goal

abbrev pub invariant-loop-event : goal.invariant-loop-event
invariant-loop-event g l = Rests (λ x. event_culprit (script_of_parts l.script) (event_expression_of x)) l.events l.event-index
