use Rattle.std.proofs.Common.{◌+◌, ◌*◌}
use Rattle.theory_spelling.specs.Spelling.{value_spelling}
use Rattle.theory_spelling.specs.Ranges.{IsInRangeValue}
use Rattle.csp_value.specs.Value.{value_of}
use Rattle.csp_value.proofs.Measures.{one_size, sizes}
use Rattle.csp_spell.proofs.Pushing.{Put, Gone}
use Rattle.csp_spell.proofs.values.+push_value.Given as goal

abbrev pub decreases-push_value : goal.decreases-push_value
decreases-push_value g l = 3 * one_size l.value.now

abbrev pub decreases-push_values : goal.decreases-push_values
decreases-push_values g l = 3 * sizes l.values.now + 1

abbrev pub invariant-push_values-loop-value : goal.invariant-push_values-loop-value
invariant-push_values-loop-value g l = Put value_spelling value_of l.values l.fn.bytes.items l.bytes.items l.value-index × Gone IsInRangeValue value_of l.values l.value-index

abbrev pub decreases-push_constructor : goal.decreases-push_constructor
decreases-push_constructor g l = 3 * sizes l.fields.now + 2
