-- Bits for one event more.
use Rattle.std.proofs.Common.{◌≡◌, ℕ, ◌+◌, ◌<◌, ◌≤◌, Bool, List, [], ◌∷◌, ◌++◌, length, map, replicate, take, get_or, Some, slice_get, refl, sym, ◌∙◌, ap, subst}
use Rattle.std.specs.List.{AllByRecursion}
use Rattle.std.proofs.lemmas.List.{length-map, map-append, take_all, take_more}
use Rattle.std.proofs.lemmas.Option.{slice_get-get_or}
use Rattle.theory_syntax.specs.Value as pure
use Rattle.theory_syntax.proofs.Places.{get_some}
use Rattle.theory_shapes.proofs.Results.{all_append}
use Rattle.csp_value.specs.declared.action.Event.{Event}
use Rattle.csp_value.specs.Action.{event_of}
use Rattle.csp_rows.specs.declared.composed.SideBits.{SideBits}
use Rattle.csp_numbers.specs.Numbers.{events_of}
use Rattle.csp_numbers.specs.Sides.{AddsMarks, AreMarksBy}

-- one event more
pub taken_next : {A : Type 0} (events : List (Event A)) (i : ℕ) (event : Event A) → i < length events → event ≡ get_or events i event → events_of (take (i + 1) events) ≡ events_of (take i events) ++ event_of event ∷ []
taken_next events i event within read =
    ap events_of (take_more events i event within ∙ ap (λ e. take i events ++ e ∷ []) (sym read)) ∙ map-append event_of (take i events) (event ∷ [])

module _ {A : Type 0} (events : List (Event A)) (i : ℕ) (event : Event A) (within : i < length events) (read : event ≡ get_or events i event) where
  pub one_mark_more : (f : pure.Event → Bool) (mark : Bool) (old new : List Bool) → mark ≡ f (event_of event) → old ≡ map f (events_of (take i events)) → new ≡ old ++ mark ∷ [] → new ≡ map f (events_of (take (i + 1) events))
  one_mark_more f mark old new is so_far pushed =
      pushed ∙ ap (λ b. old ++ b ∷ []) is ∙ ap (λ bs. bs ++ f (event_of event) ∷ []) so_far
      ∙ sym (ap (map f) (taken_next events i event within read) ∙ map-append f (events_of (take i events)) (event_of event ∷ []))

  pub one_event_marked : (f g h : pure.Event → Bool) (x y z : Bool) (old new : SideBits A) → x ≡ f (event_of event) → y ≡ g (event_of event) → z ≡ h (event_of event) →
      AreMarksBy (events_of (take i events)) f g h old → AddsMarks x y z old new → AreMarksBy (events_of (take (i + 1) events)) f g h new
  one_event_marked f g h x y z old new x-is y-is z-is so_far added = record {
    left_free = one_mark_more f x old.left_free.marks.items new.left_free.marks.items x-is so_far.left_free added.left_free;
    right_free = one_mark_more g y old.right_free.marks.items new.right_free.marks.items y-is so_far.right_free added.right_free;
    shared = one_mark_more h z old.shared.marks.items new.shared.marks.items z-is so_far.shared added.shared;
  }

-- what stands at the place of an event
pub stands_at : {A : Type 0} (events : List (Event A)) (es : List pure.Event) (i : ℕ) (event : Event A) → events_of events ≡ es → i < length events → event ≡ get_or events i event → slice_get es i ≡ Some (event_of event)
stands_at events es i event are within read =
    ap (λ xs. slice_get xs i) (sym are) ∙ get_some event_of events i event (slice_get-get_or events i event within ∙ ap Some (sym read))

pub past_all : {A : Type 0} (events : List (Event A)) (es : List pure.Event) (i : ℕ) → events_of events ≡ es → length events ≤ i → length es ≤ i
past_all events es i are past = subst (λ xs. length xs ≤ i) are (subst (λ n. n ≤ i) (sym (length-map events event_of)) past)

-- what holds of each so far, and of one more
pub one_more_passes : {A : Type 0} (P : pure.Event → Type 0) (events : List (Event A)) (i : ℕ) (event : Event A) → i < length events → event ≡ get_or events i event → P (event_of event) → AllByRecursion P (events_of (take i events)) → AllByRecursion P (events_of (take (i + 1) events))
one_more_passes P events i event within read passes so_far = subst (AllByRecursion P) (sym (taken_next events i event within read)) (all_append P (events_of (take i events)) (event_of event ∷ []) so_far (passes, tt))

pub all_pass : {A : Type 0} (P : pure.Event → Type 0) (events : List (Event A)) (i : ℕ) (es : List pure.Event) → AllByRecursion P (events_of (take i events)) → length events ≤ i → events_of events ≡ es → AllByRecursion P es
all_pass P events i es so_far past are = subst (AllByRecursion P) (ap events_of (take_all i events past) ∙ are) so_far

-- the same bit for each
pub same_marks : (b : Bool) (es : List pure.Event) → replicate (length es) b ≡ map (λ e. b) es
same_marks b [] = refl
same_marks b (e ∷ es) = ap (λ bs. b ∷ bs) (same_marks b es)

-- all events
pub all_marked : {A : Type 0} (events : List (Event A)) (i : ℕ) (es : List pure.Event) (f g h : pure.Event → Bool) (bits : SideBits A) → AreMarksBy (events_of (take i events)) f g h bits → length events ≤ i → events_of events ≡ es → AreMarksBy es f g h bits
all_marked events i es f g h bits so_far past are = subst (λ xs. AreMarksBy xs f g h bits) (ap events_of (take_all i events past) ∙ are) so_far

pub all_marks : {A : Type 0} (events : List (Event A)) (i : ℕ) (es : List pure.Event) (f : pure.Event → Bool) (marks : List Bool) → marks ≡ map f (events_of (take i events)) → length events ≤ i → events_of events ≡ es → marks ≡ map f es
all_marks events i es f marks so_far past are = so_far ∙ ap (map f) (ap events_of (take_all i events past) ∙ are)
