use Rattle.std.proofs.Common.{◌≡◌, take}
use Rattle.csp_value.specs.Value.{values_of}
use Rattle.csp_value.proofs.+copy.Given as goal

abbrev pub invariant-value::copy_values-loop-value : goal.invariant-value::copy_values-loop-value
invariant-value::copy_values-loop-value g l = values_of l.copies.items ≡ values_of (take l.value-index l.values)
