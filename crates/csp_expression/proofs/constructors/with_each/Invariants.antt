use Rattle.std.proofs.Common.{◌≡◌, take}
use Rattle.csp_value.specs.Value.{values_of}
use Rattle.csp_expression.specs.Choosing.{lists_of, with_each}
use Rattle.csp_expression.proofs.constructors.with_each.Given as goal

abbrev pub invariant-loop-value : goal.invariant-loop-value
invariant-loop-value g l = lists_of l.all.items ≡ with_each (values_of (take l.value-index l.value-items)) (lists_of l.lists)
