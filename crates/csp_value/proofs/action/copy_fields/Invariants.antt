use Rattle.std.proofs.Common.{◌≡◌, take}
use Rattle.csp_value.specs.Value.{values_of}
use Rattle.csp_value.proofs.action.copy_fields.Given as goal

abbrev pub invariant-loop-value : goal.invariant-loop-value
invariant-loop-value g l = values_of l.copies.items ≡ values_of (take l.value-index l.values)
