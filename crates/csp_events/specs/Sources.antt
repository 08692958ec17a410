-- The events that a renaming makes an event of.
use Rattle.std.specs.Prelude.{◌↔◌, Contains, List, [], ◌∷◌, ◌++◌, cond, nat_eq}
use Rattle.std.specs.List.{flat_map}
use Rattle.theory_syntax.specs.Value as pure
use Rattle.theory_semantics.specs.Meaning.Events.{or_itself}
use Rattle.csp_value.specs.declared.action.Event.{Event}
use Rattle.csp_value.specs.declared.name.ChannelId.{ChannelId}
use Rattle.csp_value.specs.Action.{event_of}
use Rattle.csp_events.specs.Imaging.{found_images}
use Rattle.csp_events.specs.declared.images.Images.{Images}

-- the event on the first channel, where it is on the second
abbrev pub channel_source : pure.Event → ChannelId × ChannelId → List pure.Event
channel_source f p = cond (nat_eq f.channel p.1.0) (record { channel = p.0.0; fields = f.fields } ∷ []) []

-- the first event, where it is the second
abbrev pub event_source : {A : Type 0} → pure.Event → Event A × Event A → List pure.Event
event_source f p = cond (pure.event_eq f (event_of p.1)) (event_of p.0 ∷ []) []

-- the event itself, where no pair names it
abbrev pub unless_named : pure.Event → List pure.Event → List pure.Event
unless_named f [] = f ∷ []
unless_named f (g ∷ gs) = []

-- those that pairs make the event of, and the event itself, where no pair names it
abbrev pub sources : {A : Type 0} → Images A → pure.Event → List pure.Event
sources images f = flat_map (channel_source f) images.channels.items ++ (flat_map (event_source f) images.events.items ++ unless_named f (found_images images f))

-- they are all the events of which it is an image
abbrev pub AreSources : {A : Type 0} → Images A → pure.Event → List pure.Event → Type 0
AreSources images f es = (e : pure.Event) → Contains es e ↔ Contains (or_itself e (found_images images e)) f
