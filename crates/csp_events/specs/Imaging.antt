-- What an evaluated renaming makes of events.
use Rattle.std.specs.Prelude.{◌≡◌, ◌↔◌, nat_eq, Contains, List, [], ◌∷◌, ◌++◌, cond, Result, Ok}
use Rattle.std.specs.List.{flat_map}
use Rattle.std.specs.List.Sorted.{IsSortedBy}
use Rattle.std.specs.Ordering.{is_lt, nat_cmp}
use Rattle.theory_syntax.specs.Value as pure
use Rattle.theory_semantics.specs.Meaning.Evaluation.{Cause}
use Rattle.csp_value.specs.declared.action.Event.{Event}
use Rattle.csp_value.specs.declared.name.ChannelId.{ChannelId}
use Rattle.csp_value.specs.Action.{event_of}
use Rattle.csp_expression.specs.Agreement.{AgreesBy}
use Rattle.csp_events.specs.declared.images.Images.{Images}
use Rattle.csp_expression.specs.declared.no_value.NoValue.{NoValue}

-- the event on the other channel, where it is on the first
abbrev pub channel_image : pure.Event → ChannelId × ChannelId → List pure.Event
channel_image e p = cond (nat_eq e.channel p.0.0) (record { channel = p.1.0; fields = e.fields } ∷ []) []

-- the second event, where it is the first
abbrev pub event_image : {A : Type 0} → pure.Event → Event A × Event A → List pure.Event
event_image e p = cond (pure.event_eq e (event_of p.0)) (event_of p.1 ∷ []) []

-- what the pairs make of an event, those of channels first
abbrev pub found_images : {A : Type 0} → Images A → pure.Event → List pure.Event
found_images images e = flat_map (channel_image e) images.channels.items ++ flat_map (event_image e) images.events.items

-- the pairs rise by what they name
abbrev pub ChannelsRise : List (ChannelId × ChannelId) → Type 0
ChannelsRise = IsSortedBy (λ p q. is_lt (nat_cmp p.0.0 q.0.0))

abbrev pub EventsRise : {A : Type 0} → List (Event A × Event A) → Type 0
EventsRise = IsSortedBy (λ p q. is_lt (pure.event_cmp (event_of p.0) (event_of q.0)))

abbrev pub PairsRise : {A : Type 0} → Images A → Type 0
PairsRise images = ChannelsRise images.channels.items × EventsRise images.events.items

-- the pairs make of each event what f makes of it
abbrev pub Makes : {A : Type 0} → Images A → (pure.Event → List pure.Event) → Type 0
Makes images f = (e g : pure.Event) → Contains (f e) g ↔ Contains (found_images images e) g

-- so for an f that is the result
abbrev pub AreMade : {A : Type 0} → Images A → Result (pure.Event → List pure.Event) Cause → Type 0
AreMade images r = (f : pure.Event → List pure.Event) × (r ≡ Ok f) × Makes images f

-- the pairs of a renaming, or the first cause
abbrev pub IsImagesOf : {A : Type 0} → Result (Images A) NoValue → Result (pure.Event → List pure.Event) Cause → Type 0
IsImagesOf = AgreesBy (λ images r. AreMade images r × PairsRise images)

-- one more pair, or its cause
abbrev pub MakesMore : {A : Type 0} → Images A → Result (pure.Event → List pure.Event) Cause → Result Unit NoValue → Images A → Type 0
MakesMore before r x after = AgreesBy (λ u r. (f : pure.Event → List pure.Event) × (r ≡ Ok f) × Makes after (λ e. found_images before e ++ f e)) x r
