-- Nothing is to blame in the parts that were looked at, and each part is less high than the term.
use Rattle.theory_semantics.specs.Meaning.Faults.{height}
use Rattle.theory_faults.specs.Processes.{culprit_in}
use Rattle.csp_term.specs.Script.{script_of_parts}
use Rattle.csp_term.specs.Term.{process_of}
use Rattle.csp_faults.proofs.Found.{Rests}
use Rattle.csp_faults.proofs.terms.+terms.Given as goal

abbrev pub decreases-culprit_in : goal.decreases-culprit_in
decreases-culprit_in g l = height (process_of l.term.now)

abbrev pub invariant-loop-part : goal.invariant-loop-part
invariant-loop-part g l = Rests (λ t. culprit_in (script_of_parts l.script) (process_of t)) l.part-items l.part-index
