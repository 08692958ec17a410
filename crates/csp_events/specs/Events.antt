-- The events, the sets of events and the renamings that those of the code stand for.
use Rattle.std.specs.Prelude.{List, map}
use Rattle.std.specs.Box.{box_value}
use Rattle.theory_syntax.specs.Expression.{to_expressions}
use Rattle.theory_syntax.specs.Process as pure
use Rattle.theory_syntax.specs.Operators.{combined}
use Rattle.theory_semantics.specs.Meaning.Substitution.{Bindings, put_event}
use Rattle.csp_events.specs.declared.event_expression.EventExpression.{EventExpression}
use Rattle.csp_events.specs.declared.renaming_pair.RenamingPair.{RenamingPair}
use Rattle.csp_events.specs.declared.event_set.EventSet.{EventSet}
use Rattle.csp_events.specs.declared.event_set.EventSet.TheOpen as layer
use Rattle.csp_events.specs.declared.event_set.EventSet.TheFolds.{fold-EventSet}
use Rattle.csp_expression.specs.Expression.{expressions_of}

abbrev pub event_expression_of : {A : Type 0} → EventExpression A → pure.EventExpression
event_expression_of e = record { channel = e.channel.0; fields = to_expressions (expressions_of e.fields.items) }

abbrev pub event_expressions_of : {A : Type 0} → List (EventExpression A) → List pure.EventExpression
event_expressions_of es = map event_expression_of es

-- one layer, with the sets of the parts in their places
abbrev pub event_set_step : {A : Type 0} → layer.EventSet-F A pure.EventSet → pure.EventSet
event_set_step (layer.Enumeration es) = pure.Enumeration (event_expressions_of es.items)
event_set_step (layer.Productions es) = pure.Productions (event_expressions_of es.items)
event_set_step (layer.Combine op a b) = combined op (box_value a) (box_value b)

abbrev pub event_set_of : {A : Type 0} → EventSet A → pure.EventSet
event_set_of {A} = fold-EventSet A pure.EventSet event_set_step

abbrev pub renaming_pair_of : {A : Type 0} → RenamingPair A → pure.RenamingPair
renaming_pair_of r = record { from = event_expression_of r.from; to = event_expression_of r.to }

abbrev pub renaming_pairs_of : {A : Type 0} → List (RenamingPair A) → List pure.RenamingPair
renaming_pairs_of rs = map renaming_pair_of rs

-- a renaming pair with the values put in
abbrev pub put_pair : Bindings → pure.RenamingPair → pure.RenamingPair
put_pair bs r = record { from = put_event bs r.from; to = put_event bs r.to }
