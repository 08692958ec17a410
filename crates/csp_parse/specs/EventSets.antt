-- Sets of events, as the definitions have them.
use Rattle.std.specs.Prelude.{map}
use Rattle.std.specs.Box.{box_value}
use Rattle.theory_syntax.specs.declared.event_set_operator.EventSetOperator.{EventSetOperator}
use Rattle.theory_syntax.specs.declared.event_set_operator.EventSetOperator.TheVariants as operator
use Rattle.theory_text.specs.Raw.{RawEventSet, RawEnumeration, RawProductions, RawEventUnion, RawEventIntersection, RawEventDifference}
use Rattle.csp_parse.specs.declared.event_sets.EventSet.{EventSet}
use Rattle.csp_parse.specs.declared.event_sets.EventSet.TheOpen as layer
use Rattle.csp_parse.specs.declared.event_sets.EventSet.TheFolds.{fold-EventSet}
use Rattle.csp_parse.specs.Events.{event_of}

abbrev pub operator_of : EventSetOperator → RawEventSet → RawEventSet → RawEventSet
operator_of operator.Union = RawEventUnion
operator_of operator.Intersection = RawEventIntersection
operator_of operator.Difference = RawEventDifference

-- one layer, with the sets of the parts in their places
abbrev pub event_set_step : {A : Type 0} → layer.EventSet-F A RawEventSet → RawEventSet
event_set_step (layer.Enumeration es) = RawEnumeration (map event_of es.items)
event_set_step (layer.Productions es) = RawProductions (map event_of es.items)
event_set_step (layer.Combine o s t) = operator_of o (box_value s) (box_value t)

abbrev pub event_set_of : {A : Type 0} → EventSet A → RawEventSet
event_set_of {A} = fold-EventSet A RawEventSet event_set_step
