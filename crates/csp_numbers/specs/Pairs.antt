-- What pairs of a renaming make of events, by numbers.
use Rattle.std.specs.Prelude.{◌≡◌, ◌<◌, ℕ, nat_eq, Bool, true, false, cond, List, [], ◌∷◌, length, map, slice_get, Contains, Option, Some, None, Result, Ok}
use Rattle.std.specs.List.{AllByRecursion, flat_map}
use Rattle.std.specs.declared.vec.Vec.{Vec}
use Rattle.theory_syntax.specs.Value.{Event, event_eq}
use Rattle.theory_semantics.specs.Meaning.Evaluation.{Cause}
use Rattle.theory_semantics.specs.Meaning.Events.{or_itself}
use Rattle.csp_expression.specs.Agreement.{AgreesBy}
use Rattle.csp_expression.specs.declared.no_value.NoValue.{NoValue}
use Rattle.csp_rows.specs.declared.framed.Images.{Images}
use Rattle.csp_rows.specs.declared.numbers.EventId.{EventId}
use Rattle.csp_rows.specs.Framed.{images_at}
use Rattle.csp_numbers.specs.Numbers.{event_at}
use Rattle.csp_numbers.specs.declared.pair.Pair.{Pair}
use Rattle.csp_numbers.specs.declared.pair.Pair.TheVariants as pair

-- ---- events that are written

-- the event stands at the place of the number, or there is a cause
abbrev pub IsNumberIn : List Event → Result EventId NoValue → Result Event Cause → Type 0
IsNumberIn es = AgreesBy (λ n r. (e : Event) × (r ≡ Ok e) × (slice_get es n.0 ≡ Some e))

-- ---- pairs

-- what the pair makes of an event
abbrev pub image_by : List Event → Event → Pair → List Event
image_by es e (pair.Channels from to) = cond (nat_eq e.channel from.0) (record { channel = to.0; fields = e.fields } ∷ []) []
image_by es e (pair.Events from to) = cond (event_eq e (event_at es from)) (event_at es to ∷ []) []

-- what the pairs make of it in turn
abbrev pub images_by : List Event → List Pair → Event → List Event
images_by es ps e = flat_map (image_by es e) ps

-- the pair makes one of these events of those that it names
abbrev pub IsPlaced : List Event → Pair → Type 0
IsPlaced es (pair.Channels from to) = (e : Event) → Contains es e → nat_eq e.channel from.0 ≡ true → Contains es (record { channel = to.0; fields = e.fields })
IsPlaced es (pair.Events from to) = (from.0 < length es) × (to.0 < length es)

abbrev pub ArePlaced : List Event → List Pair → Type 0
ArePlaced es ps = AllByRecursion (IsPlaced es) ps

-- f is what they make of events
pub record Make (es : List Event) (ps : List Pair) (r : Result (Event → List Event) Cause) : Type 0 where
  pub placed : ArePlaced es ps
  pub makes : Event → List Event
  pub is : r ≡ Ok makes
  pub same : (e : Event) → makes e ≡ images_by es ps e

-- the pair by numbers, or the cause for which it names nothing
abbrev pub IsPairOf : List Event → Result Pair NoValue → Result (Event → List Event) Cause → Type 0
IsPairOf es = AgreesBy (λ p r. Make es (p ∷ []) r)

-- so for pairs
abbrev pub ArePairsOf : {A : Type 0} → List Event → Result (Vec Pair A) NoValue → Result (Event → List Event) Cause → Type 0
ArePairsOf es = AgreesBy (λ ps r. Make es ps.items r)

-- ---- images

-- there is one image, with this number, or there is none
abbrev pub IsImage : List Event → List Event → Option EventId → Type 0
IsImage es images (Some n) = map (λ e. Some e) images ≡ slice_get es n.0 ∷ []
IsImage es images None = images ≡ []

-- the number, if there is one
abbrev pub or_none : Option EventId → List EventId
or_none (Some n) = n ∷ []
or_none None = []

-- the events of these numbers
abbrev pub AreNumbersOf : List Event → List Event → List EventId → Type 0
AreNumbersOf es events numbers = map (λ n. slice_get es n.0) numbers ≡ map (λ e. Some e) events

-- the images of each event, by numbers
abbrev pub HaveImages : {A : Type 0} → List Event → List Pair → Images A → Type 0
HaveImages es ps by = (n : ℕ) (e : Event) → slice_get es n ≡ Some e → AreNumbersOf es (or_itself e (images_by es ps e)) (images_at by.images.items n)
