-- What was kept, and behind it what is kept of the values that are left.
use Rattle.csp_value.specs.Fields.{field_values}
use Rattle.csp_faults.proofs.Kept.{AreSoFar}
use Rattle.csp_faults.proofs.fields.within.Given as goal

abbrev pub invariant-loop-value : goal.invariant-loop-value
invariant-loop-value g l = AreSoFar (field_values l.set) l.values l.value-index l.within.items
