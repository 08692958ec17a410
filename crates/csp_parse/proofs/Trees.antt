-- The tree of each form of expression.
use Rattle.std.proofs.Common.{◌≡◌, ◌∙◌, ℕ, Bool, sym, ap}
use Rattle.theory_syntax.specs.declared.operator.BinaryOperator.{BinaryOperator}
use Rattle.theory_syntax.specs.Operators.{binary_of}
use Rattle.theory_text.specs.Raw.{RawExpression, RawNumber, RawTruth, RawBooleans, RawUse, RawCombine, RawSequence, RawSet, RawConstructor}
use Rattle.csp_parse.specs.declared.expressions.Expression.TheOpen as layer
use Rattle.csp_parse.specs.declared.expressions.Expression.TheFolds.{fold-roll-Expression}
use Rattle.csp_parse.specs.declared.expressions.Expression.TheVariants as views
use Rattle.csp_parse.specs.declared.expressions.Expression.{Expression}
use Rattle.csp_parse.specs.declared.names.Name.{Name}
use Rattle.theory_syntax.specs.declared.event_set_operator.EventSetOperator.{EventSetOperator}
use Rattle.theory_text.specs.Raw.{RawEventSet}
use Rattle.csp_parse.specs.declared.event_sets.EventSet.{EventSet}
use Rattle.csp_parse.specs.declared.event_sets.EventSet.TheOpen as set_layer
use Rattle.csp_parse.specs.declared.event_sets.EventSet.TheFolds.{fold-roll-EventSet}
use Rattle.csp_parse.specs.declared.event_sets.EventSet.TheVariants as set_views
use Rattle.csp_parse.specs.EventSets.{operator_of, event_set_step, event_set_of}
use Rattle.std.specs.Box.{box_value}
use Rattle.std.specs.declared.boxed.Box.{Box}
use Rattle.std.specs.declared.vec.Vec.{Vec}
use Rattle.csp_parse.specs.Expressions.{expression_step, expression_of, expressions_in}
use Rattle.theory_reader.specs.Forms.{raw_list}
use Rattle.csp_parse.specs.Names.{name_of}

module _ (A : Type 0) where
  pub tree_of_number : (n : ℕ) → expression_of {A = A} (views.Number n) ≡ RawNumber n
  tree_of_number n = ap (expression_of {A = A}) (sym (views.rolls-Number n)) ∙ fold-roll-Expression A RawExpression expression_step (layer.Number n)

  pub tree_of_truth : (b : Bool) → expression_of {A = A} (views.Truth b) ≡ RawTruth b
  tree_of_truth b = ap (expression_of {A = A}) (sym (views.rolls-Truth b)) ∙ fold-roll-Expression A RawExpression expression_step (layer.Truth b)

  pub tree_of_booleans : expression_of {A = A} views.Booleans ≡ RawBooleans
  tree_of_booleans = ap (expression_of {A = A}) (sym views.rolls-Booleans) ∙ fold-roll-Expression A RawExpression expression_step layer.Booleans

  pub tree_of_use : (n : Name) → expression_of {A = A} (views.Use n) ≡ RawUse (name_of n)
  tree_of_use n = ap (expression_of {A = A}) (sym (views.rolls-Use n)) ∙ fold-roll-Expression A RawExpression expression_step (layer.Use n)

  pub tree_of_combine : (o : BinaryOperator) (e f : Box (Expression A) A) → expression_of {A = A} (views.Combine o e f) ≡ RawCombine (binary_of o) (expression_of (box_value e)) (expression_of (box_value f))
  tree_of_combine o e f = ap (expression_of {A = A}) (sym (views.rolls-Combine o e f)) ∙ fold-roll-Expression A RawExpression expression_step (layer.Combine o e f)

  pub tree_of_sequence : (es : Vec (Expression A) A) → expression_of {A = A} (views.Sequence es) ≡ RawSequence (raw_list (expressions_in es.items))
  tree_of_sequence es = ap (expression_of {A = A}) (sym (views.rolls-Sequence es)) ∙ fold-roll-Expression A RawExpression expression_step (layer.Sequence es)

  pub tree_of_set : (es : Vec (Expression A) A) → expression_of {A = A} (views.Set es) ≡ RawSet (raw_list (expressions_in es.items))
  tree_of_set es = ap (expression_of {A = A}) (sym (views.rolls-Set es)) ∙ fold-roll-Expression A RawExpression expression_step (layer.Set es)

  pub tree_of_constructor : (n : Name) (es : Vec (Expression A) A) → expression_of {A = A} (views.Constructor n es) ≡ RawConstructor (name_of n) (raw_list (expressions_in es.items))
  tree_of_constructor n es = ap (expression_of {A = A}) (sym (views.rolls-Constructor n es)) ∙ fold-roll-Expression A RawExpression expression_step (layer.Constructor n es)

  pub tree_of_joined : (o : EventSetOperator) (s t : Box (EventSet A) A) → event_set_of {A = A} (set_views.Combine o s t) ≡ operator_of o (event_set_of (box_value s)) (event_set_of (box_value t))
  tree_of_joined o s t = ap (event_set_of {A = A}) (sym (set_views.rolls-Combine o s t)) ∙ fold-roll-EventSet A RawEventSet event_set_step (set_layer.Combine o s t)
