-- The test that an evaluated set of events is, and what it lists.
use Rattle.std.specs.Prelude.{◌≡◌, ⊤, Bool, not, ◌&&◌, ◌||◌, List, [], ◌∷◌, ◌++◌, map, Result, Ok}
use Rattle.std.specs.Box.{box_value}
use Rattle.std.specs.declared.boxed.Box.{Box}
use Rattle.std.specs.List.{list_any}
use Rattle.std.specs.List.Sorted.{IsSortedBy}
use Rattle.std.specs.Ordering.{is_lt}
use Rattle.smallvec.specs.SmallVec.{SmallVec}
use denote.Ref.{Bor}
use Rattle.theory_syntax.specs.Value as pure
use Rattle.theory_syntax.specs.declared.event_set_operator.EventSetOperator.{EventSetOperator}
use Rattle.theory_syntax.specs.declared.event_set_operator.EventSetOperator.TheVariants as operator
use Rattle.theory_semantics.specs.Meaning.Evaluation.{Cause}
use Rattle.theory_semantics.specs.Meaning.Events.{begins_with}
use Rattle.csp_value.specs.declared.action.Event.{Event}
use Rattle.csp_value.specs.declared.field_set.FieldSet.{FieldSet}
use Rattle.csp_value.specs.declared.name.ChannelId.{ChannelId}
use Rattle.csp_value.specs.declared.value.Value.{Value}
use Rattle.csp_value.specs.Action.{event_of}
use Rattle.csp_value.specs.Value.{values_of}
use Rattle.csp_expression.specs.Agreement.{AgreesBy, AgreesWith}
use Rattle.csp_value.specs.Fields.{sets_of}
use Rattle.csp_expression.specs.declared.no_value.NoValue.{NoValue}
use Rattle.csp_events.specs.declared.event_test.EventTest.{EventTest}
use Rattle.csp_events.specs.declared.event_test.EventTest.TheOpen as layer
use Rattle.csp_events.specs.declared.event_test.EventTest.TheFolds.{fold-EventTest}

-- two tests under an operator
abbrev pub combined_test : EventSetOperator → (pure.Event → Bool) → (pure.Event → Bool) → pure.Event → Bool
combined_test operator.Union f g e = f e || g e
combined_test operator.Intersection f g e = f e && g e
combined_test operator.Difference f g e = f e && not (g e)

-- one layer, with the tests of the parts in their places
abbrev pub test_step : {A : Type 0} → layer.EventTest-F A (pure.Event → Bool) → pure.Event → Bool
test_step (layer.Events es) e = list_any (pure.event_eq e) (map event_of es.items)
test_step (layer.Beginnings es) e = list_any (begins_with e) (map event_of es.items)
test_step (layer.Combine op a b) e = combined_test op (box_value a) (box_value b) e

abbrev pub test_of : {A : Type 0} → EventTest A → pure.Event → Bool
test_of {A} = fold-EventTest A (pure.Event → Bool) test_step

-- one layer, with what the parts list in their places
abbrev pub listed_step : {A : Type 0} → layer.EventTest-F A (List (List (Event A))) → List (List (Event A))
listed_step (layer.Events es) = es.items ∷ []
listed_step (layer.Beginnings es) = es.items ∷ []
listed_step (layer.Combine op a b) = box_value a ++ box_value b

-- the lists in which an event, or a beginning of it, is looked for by halving
abbrev pub listed_in : {A : Type 0} → EventTest A → List (List (Event A))
listed_in {A} = fold-EventTest A (List (List (Event A))) listed_step

-- each list rises
abbrev pub AreSorted : {A : Type 0} → List (List (Event A)) → Type 0
AreSorted [] = ⊤
AreSorted (es ∷ ess) = IsSortedBy (λ e f. is_lt (pure.event_cmp (event_of e) (event_of f))) es × AreSorted ess

-- the field sets of a channel, or the cause where it has none
abbrev pub AreSetsOf : {A : Type 0} → Result (Bor (List (FieldSet A))) NoValue → Result (List (List pure.Value)) Cause → Type 0
AreSetsOf = AgreesWith (λ sets. sets_of sets.now)

-- the values of given fields, which have to lie in their sets
abbrev pub AreGivenBy : {A : Type 0} → Result (SmallVec (Value A)) NoValue → Result (List pure.Value) Cause → Type 0
AreGivenBy = AgreesWith (λ vs. values_of vs.items)

-- the channel with these fields
abbrev pub event_with : {A : Type 0} → ChannelId → List (Value A) → pure.Event
event_with c vs = record { channel = c.0; fields = values_of vs }

-- the event that is written, or the first cause
abbrev pub IsEventOf : {A : Type 0} → Result (Event A) NoValue → Result pure.Event Cause → Type 0
IsEventOf = AgreesWith event_of

-- the test that a set is, in whose lists events are found by halving, or the first cause
abbrev pub IsTestOf : {A : Type 0} → Result (EventTest A) NoValue → Result (pure.Event → Bool) Cause → Type 0
IsTestOf = AgreesBy (λ t r. (r ≡ Ok (test_of t)) × AreSorted (listed_in t))

-- the same behind a pointer
abbrev pub IsBoxedTestOf : {A : Type 0} → Result (Box (EventTest A) A) NoValue → Result (pure.Event → Bool) Cause → Type 0
IsBoxedTestOf = AgreesBy (λ t r. (r ≡ Ok (test_of (box_value t))) × AreSorted (listed_in (box_value t)))
