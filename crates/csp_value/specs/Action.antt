-- What events and actions stand for.
use Rattle.theory_syntax.specs.Value as pure
use Rattle.csp_value.specs.declared.action.Event.{Event}
use Rattle.csp_value.specs.declared.action.Action.{Action}
use Rattle.csp_value.specs.declared.action.Action.TheVariants as variant
use Rattle.csp_value.specs.Value.{values_of}

abbrev pub event_of : {A : Type 0} → Event A → pure.Event
event_of e = record { channel = e.channel.0; fields = values_of e.fields.items }

abbrev pub action_of : {A : Type 0} → Action A → pure.Action
action_of variant.Tau = pure.Tau
action_of variant.Tick = pure.Tick
action_of (variant.Event e) = pure.Ev (event_of e)
