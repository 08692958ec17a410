-- What is left decides.
use Rattle.theory_faults.specs.Events.{pair_culprit}
use Rattle.csp_events.specs.Events.{renaming_pair_of}
use Rattle.csp_term.specs.Script.{script_of_parts}
use Rattle.csp_faults.proofs.Found.{Rests}
use Rattle.csp_faults.proofs.renamings.renaming_culprit.Given as goal

abbrev pub invariant-loop-pair : goal.invariant-loop-pair
invariant-loop-pair g l = Rests (λ x. pair_culprit (script_of_parts l.script) (renaming_pair_of x)) l.pairs l.pair-index
