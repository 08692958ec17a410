use Rattle.std.proofs.Common.{◌≡◌, drop, ◌++◌, ◌+◌, ◌*◌}
use Rattle.std.specs.String.{string_bytes}
use Rattle.theory_syntax.specs.Value.{to_values}
use Rattle.theory_semantics.specs.Meaning.Limits.{value_size, values_size}
use Rattle.csp_value.specs.Value.{value_of, values_of}
use Rattle.theory_notation.specs.Values.{values_behind}
use Rattle.csp_print.specs.Names.{names_of}
use Rattle.csp_print.proofs.values.+value.Given as goal

abbrev pub decreases-push_value : goal.decreases-push_value
decreases-push_value g l = 3 * value_size (value_of l.value.now)

abbrev pub decreases-push_constructor : goal.decreases-push_constructor
decreases-push_constructor g l = 3 * values_size (to_values (values_of l.fields.now)) + 2

abbrev pub decreases-push_values : goal.decreases-push_values
decreases-push_values g l = 3 * values_size (to_values (values_of l.values.now)) + 2

abbrev pub decreases-push_values_behind : goal.decreases-push_values_behind
decreases-push_values_behind g l = 3 * values_size (to_values (values_of l.values.now)) + 1

abbrev pub invariant-push_values_behind-loop-value : goal.invariant-push_values_behind-loop-value
invariant-push_values_behind-loop-value g l =
    string_bytes l.text ++ values_behind (names_of l.names) l.mark (to_values (values_of (drop l.value-index l.values)))
    ≡ string_bytes l.initial.text ++ values_behind (names_of l.names) l.mark (to_values (values_of l.values))
