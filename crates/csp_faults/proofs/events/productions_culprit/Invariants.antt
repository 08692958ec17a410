-- What is left decides.
use Rattle.theory_faults.specs.Events.{beginning_culprit}
use Rattle.csp_events.specs.Events.{event_expression_of}
use Rattle.csp_term.specs.Script.{script_of_parts}
use Rattle.csp_faults.proofs.Found.{Rests}
use Rattle.csp_faults.proofs.events.productions_culprit.Given as goal

abbrev pub invariant-loop-beginning : goal.invariant-loop-beginning
invariant-loop-beginning g l = Rests (λ x. beginning_culprit (script_of_parts l.script) (event_expression_of x)) l.beginnings l.beginning-index
