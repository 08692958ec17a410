-- The set of events of each form.
use Rattle.std.proofs.Common.{◌≡◌, sym, ◌∙◌, ap}
use Rattle.std.specs.declared.boxed.Box.{Box}
use Rattle.std.specs.declared.vec.Vec.{Vec}
use Rattle.theory_syntax.specs.Process as pure
use Rattle.theory_syntax.specs.declared.event_set_operator.EventSetOperator.{EventSetOperator}
use Rattle.theory_syntax.specs.Operators.{combined}
use Rattle.csp_events.specs.declared.event_expression.EventExpression.{EventExpression}
use Rattle.csp_events.specs.declared.event_set.EventSet.{EventSet, fold-roll-EventSet}
use Rattle.csp_events.specs.declared.event_set.EventSet.TheVariants as views
use Rattle.csp_events.specs.declared.event_set.EventSet.TheOpen as layer
use Rattle.csp_events.specs.Events.{event_expressions_of, event_set_of, event_set_step}

module _ (A : Type 0) where
  pub of_enumeration : (es : Vec (EventExpression A) A) → event_set_of {A = A} (views.Enumeration es) ≡ pure.Enumeration (event_expressions_of es.items)
  of_enumeration es = ap (event_set_of {A = A}) (sym (views.rolls-Enumeration es)) ∙ fold-roll-EventSet A pure.EventSet event_set_step (layer.Enumeration es)

  pub of_productions : (es : Vec (EventExpression A) A) → event_set_of {A = A} (views.Productions es) ≡ pure.Productions (event_expressions_of es.items)
  of_productions es = ap (event_set_of {A = A}) (sym (views.rolls-Productions es)) ∙ fold-roll-EventSet A pure.EventSet event_set_step (layer.Productions es)

  pub of_combined : (op : EventSetOperator) (a b : Box (EventSet A) A) → event_set_of {A = A} (views.Combine op a b) ≡ combined op (event_set_of a.value) (event_set_of b.value)
  of_combined op a b = ap (event_set_of {A = A}) (sym (views.rolls-Combine op a b)) ∙ fold-roll-EventSet A pure.EventSet event_set_step (layer.Combine op a b)
