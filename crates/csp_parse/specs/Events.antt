-- Events and pairs, as the definitions have them.
use Rattle.theory_text.specs.Raw.{RawEvent, RawPair}
use Rattle.csp_parse.specs.declared.events.Event.{Event}
use Rattle.csp_parse.specs.declared.events.Pair.{Pair}
use Rattle.csp_parse.specs.Expressions.{expressions_of}
use Rattle.csp_parse.specs.Names.{name_of}

abbrev pub event_of : {A : Type 0} → Event A → RawEvent
event_of e = record { channel = name_of e.channel; fields = expressions_of e.fields.items }

abbrev pub pair_of : {A : Type 0} → Pair A → RawPair
pair_of p = record { from = event_of p.from; to = event_of p.to }
