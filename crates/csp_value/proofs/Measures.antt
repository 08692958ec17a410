-- The sizes and the depths of values together.
use Rattle.std.proofs.Common.{ℕ, List}
use Rattle.theory_syntax.specs.Value.{to_values}
use Rattle.theory_semantics.specs.Meaning.Limits.{value_depth, value_size, values_depth, values_size}
use Rattle.csp_value.specs.declared.value.Value.{Value}
use Rattle.csp_value.specs.Value.{value_of, values_of}

abbrev pub one_size : {A : Type 0} → Value A → ℕ
one_size v = value_size (value_of v)

abbrev pub sizes : {A : Type 0} → List (Value A) → ℕ
sizes vs = values_size (to_values (values_of vs))

abbrev pub one_depth : {A : Type 0} → Value A → ℕ
one_depth v = value_depth (value_of v)

abbrev pub depths : {A : Type 0} → List (Value A) → ℕ
depths vs = values_depth (to_values (values_of vs))
