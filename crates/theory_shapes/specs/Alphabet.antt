-- The events of a script.
use Rattle.std.specs.Prelude.{◌≡◌, ℕ, suc, IsTrue, List, [], ◌∷◌, ◌++◌, map, Some, slice_get}
use Rattle.std.specs.List.{AllByRecursion}
use Rattle.theory_syntax.specs.Value.{Value, Event, has_value, value_cmp}
use Rattle.theory_semantics.specs.Meaning.Offers.{RisesBy}
use Rattle.theory_syntax.specs.Process.{Script}
use Rattle.theory_semantics.specs.Kinds.Kind.{InTurn}

-- An event of a script: its channel has as many field sets as it has fields, and these lie in them in turn.
abbrev pub IsEventOf : Script → Event → Type 0
IsEventOf script e = (sets : List (List Value)) × (slice_get script.channels e.channel ≡ Some sets) × InTurn (λ v set. IsTrue (has_value set v)) e.fields sets

-- each value before each list
abbrev pub each_before : List Value → List (List Value) → List (List Value)
each_before [] lists = []
each_before (v ∷ vs) lists = map (λ l. v ∷ l) lists ++ each_before vs lists

-- the lists of one value of each set
abbrev pub field_lists : List (List Value) → List (List Value)
field_lists [] = [] ∷ []
field_lists (set ∷ sets) = each_before set (field_lists sets)

-- the events of a channel with these fields
abbrev pub with_fields : ℕ → List (List Value) → List Event
with_fields c lists = map (λ vs. record { channel = c; fields = vs }) lists

-- the events of channels, of which the first has this number
abbrev pub events_from : ℕ → List (List (List Value)) → List Event
events_from c [] = []
events_from c (sets ∷ more) = with_fields c (field_lists sets) ++ events_from (suc c) more

-- all events of a script
abbrev pub alphabet : Script → List Event
alphabet script = events_from 0 script.channels

-- the values of each field set rise
abbrev pub FieldSetsRise : Script → Type 0
FieldSetsRise script = AllByRecursion (λ sets. AllByRecursion (RisesBy value_cmp) sets) script.channels
