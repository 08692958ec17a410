-- The value that a value of the code stands for.
use Rattle.std.specs.Prelude.{List, [], ◌∷◌, true, map}
use Rattle.std.specs.Ordering.{is_lt}
use Rattle.std.specs.Coded.{Coded-set, coded_bool, ×_prop, Unit-prop}
use Rattle.theory_syntax.specs.Value as pure
use Rattle.theory_semantics.specs.Meaning.Offers.{RisesBy}
use Rattle.csp_value.specs.declared.value.Value.{Value}
use Rattle.csp_value.specs.declared.set.SetOf.{SetOf}
use Rattle.csp_value.specs.declared.value.Value.TheOpen as layer
use Rattle.csp_value.specs.declared.value.Value.TheFolds.{fold-Value, fold-SetOf}

-- one layer, with the values of the members in their places
abbrev pub value_step : {A : Type 0} → layer.Value-F A pure.Value pure.Values → pure.Value
value_step (layer.Int n) = pure.Integer n
value_step (layer.Bool b) = pure.Truth b
value_step (layer.Con k vs) = pure.Constructor k.0 (pure.to_values vs.items)
value_step (layer.Seq vs) = pure.Sequence (pure.to_values vs.items)
value_step (layer.Set vs) = pure.Set vs

abbrev pub members_step : {A : Type 0} → layer.SetOf-F A pure.Value pure.Values → pure.Values
members_step s = pure.to_values s.members.items

abbrev pub value_of : {A : Type 0} → Value A → pure.Value
value_of {A} = fold-Value A pure.Value pure.Values value_step members_step

-- the members of a set
abbrev pub members_of : {A : Type 0} → SetOf A → pure.Values
members_of {A} = fold-SetOf A pure.Value pure.Values value_step members_step

abbrev pub values_of : {A : Type 0} → List (Value A) → List pure.Value
values_of vs = map value_of vs

-- a set as the definitions have it: its members rise, so that none is there twice
abbrev pub IsRisingSet : {A : Type 0} → SetOf A → Type 0
IsRisingSet s = RisesBy pure.value_cmp (pure.values_list (members_of s))

-- at most one proof says so
pub values_rising_prop : (vs : List pure.Value) → IsProp (RisesBy pure.value_cmp vs)
values_rising_prop [] = Unit-prop
values_rising_prop (v ∷ []) = Unit-prop
values_rising_prop (v ∷ w ∷ ws) = ×_prop (Coded-set coded_bool (is_lt (pure.value_cmp v w)) true) (values_rising_prop (w ∷ ws))

pub rising_prop : {A : Type 0} (s : SetOf A) → IsProp (IsRisingSet s)
rising_prop s = values_rising_prop (pure.values_list (members_of s))
