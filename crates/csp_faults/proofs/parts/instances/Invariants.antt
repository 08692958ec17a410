-- What was made, and behind it the instances of the values that are left.
use Rattle.csp_term.specs.Term.{process_of}
use Rattle.csp_faults.proofs.Instances.{AreSoFar}
use Rattle.csp_faults.proofs.parts.instances.Given as goal

abbrev pub invariant-loop-value : goal.invariant-loop-value
invariant-loop-value g l = AreSoFar l.name.0 (process_of l.body) l.values l.value-index l.parts.items
