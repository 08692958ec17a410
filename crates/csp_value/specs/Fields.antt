-- The values that fields may have.
use Rattle.std.specs.Prelude.{List, map}
use Rattle.theory_syntax.specs.Value as pure
use Rattle.csp_value.specs.declared.field_set.FieldSet.{FieldSet}
use Rattle.csp_value.specs.Value.{members_of}

-- the values that a field may have, in order
abbrev pub field_values : {A : Type 0} → FieldSet A → List pure.Value
field_values s = pure.values_list (members_of s.values)

-- those of several fields in turn
abbrev pub sets_of : {A : Type 0} → List (FieldSet A) → List (List pure.Value)
sets_of ss = map field_values ss
