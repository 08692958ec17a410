use Rattle.std.proofs.Common.{◌+◌, ◌*◌}
use Rattle.theory_syntax.specs.Value.{to_values}
use Rattle.theory_semantics.specs.Meaning.Limits.{value_size, values_size}
use Rattle.csp_value.specs.Value.{value_of, values_of}
use Rattle.csp_inference.specs.Chain.{demand_of}
use Rattle.csp_inference.specs.Numbering.{numbering_of}
use Rattle.csp_inference.proofs.Asking.{Left, LeftBoth}
use Rattle.csp_inference.proofs.AskingValues.{asked_in_turn, asked_values, behind_asked}
use Rattle.csp_inference.proofs.equations.Equations.+ask_value.Given as goal

abbrev pub decreases-ask_value : goal.decreases-ask_value
decreases-ask_value g l = 3 * value_size (value_of l.value.now)

abbrev pub decreases-ask_values : goal.decreases-ask_values
decreases-ask_values g l = 3 * values_size (to_values (values_of l.values.now)) + 1

abbrev pub decreases-ask_constructor : goal.decreases-ask_constructor
decreases-ask_constructor g l = 3 * values_size (to_values (values_of l.fields.now)) + 2

abbrev pub decreases-ask_values_in_turn : goal.decreases-ask_values_in_turn
decreases-ask_values_in_turn g l = 3 * values_size (to_values (values_of l.values.now)) + 1

abbrev pub invariant-ask_values-loop-value : goal.invariant-ask_values-loop-value
invariant-ask_values-loop-value g l = Left (asked_values (numbering_of l.numbering) (demand_of l.kind)) behind_asked l.initial.self l.self l.values l.value-index

abbrev pub invariant-ask_values_in_turn-loop-index : goal.invariant-ask_values_in_turn-loop-index
invariant-ask_values_in_turn-loop-index g l = LeftBoth (asked_in_turn (numbering_of l.numbering)) behind_asked l.initial.self l.self l.values l.numbers l.index
