use Rattle.std.proofs.Common.{◌≡◌}
use Rattle.theory_syntax.specs.Value.{insert_values}
use Rattle.csp_value.specs.Value.{values_of}
use Rattle.csp_value.proofs.set.insert_each.Given as goal

abbrev pub invariant-loop-value : goal.invariant-loop-value
invariant-loop-value g l = insert_values (values_of l.value-iterator.rest.items) (values_of l.both.items) ≡ insert_values (values_of l.fn.values.items) (values_of l.fn.members.items)
