-- Events by their places in a list.
use Rattle.std.specs.Prelude.{◌≡◌, ◌<◌, ◌≤◌, ◌^◌, ℕ, List, [], get_or, length, map, slice_get, Contains, Option, Some, None}
use Rattle.std.specs.declared.vec.Vec.{Vec}
use denote.Ref.{Bor}
use Rattle.theory_syntax.specs.Value as pure
use Rattle.theory_syntax.specs.Value.{event_cmp}
use Rattle.theory_semantics.specs.Meaning.Offers.{RisesBy}
use Rattle.csp_value.specs.declared.action.Event.{Event}
use Rattle.csp_value.specs.Action.{event_of}
use Rattle.csp_rows.specs.declared.numbers.EventId.{EventId}
use Rattle.csp_rows.specs.Numbering.{Numbering}

abbrev pub events_of : {A : Type 0} → List (Event A) → List pure.Event
events_of es = map event_of es

-- what stands for an event where there is none
abbrev pub no_event : pure.Event
no_event = record { channel = 0; fields = [] }

-- the event of this number; beyond them, any
abbrev pub event_at : List pure.Event → EventId → pure.Event
event_at es n = get_or es n.0 no_event

-- The events rise, so that each stands at one place, and each place has a number.
pub record AreNumbered (es : List pure.Event) : Type 0 where
  pub rising : RisesBy event_cmp es
  pub few : length es < 2 ^ 32

-- these are the events, or they are more than so many
abbrev pub AreWithin : ℕ → List pure.Event → Option (List pure.Event) → Type 0
AreWithin most es (Some listed) = (listed ≡ es) × (length es ≤ most)
AreWithin most es None = most < length es

-- the event stands at the place of this number, or nowhere
abbrev pub IsNumberOf : List pure.Event → pure.Event → Option EventId → Type 0
IsNumberOf es e (Some n) = slice_get es n.0 ≡ Some e
IsNumberOf es e None = Contains es e → ⊥

-- it stands at the place, or there is none
abbrev pub IsEventAt : {A : Type 0} → List pure.Event → ℕ → Option (Bor (Event A)) → Type 0
IsEventAt es n (Some e) = slice_get es n ≡ Some (event_of e.now)
IsEventAt es n None = slice_get es n ≡ None

-- they are all of the events, or the events are more than so many
abbrev pub AreListedWithin : {A : Type 0} → ℕ → List pure.Event → Option (Vec (Event A) A) → Type 0
AreListedWithin most es (Some listed) = (events_of listed.items ≡ es) × (length es ≤ most)
AreListedWithin most es None = most < length es

-- The numbers of the events are their places in the list.
pub record NumbersEvents (es : List pure.Event) (z : Numbering) : Type 0 where
  pub count : z.events ≡ length es
  pub each : (n : ℕ) → n < length es → slice_get es n ≡ Some (z.event n)
