-- The expression of each form.
use Rattle.std.proofs.Common.{◌≡◌, sym, ◌∙◌, ap}
use Rattle.std.specs.declared.boxed.Box.{Box}
use Rattle.std.specs.declared.vec.Vec.{Vec}
use Rattle.theory_syntax.specs.Expression as pure
use Rattle.theory_syntax.specs.declared.operator.UnaryOperator.{UnaryOperator}
use Rattle.theory_syntax.specs.declared.operator.BinaryOperator.{BinaryOperator}
use Rattle.theory_syntax.specs.Operators.{unary_of, binary_of}
use Rattle.csp_value.specs.declared.name.ConId.{ConId}
use Rattle.csp_value.specs.declared.value.Value.{Value}
use Rattle.csp_value.specs.Value.{value_of}
use Rattle.csp_expression.specs.declared.name.Name.{Name}
use Rattle.csp_expression.specs.declared.name.DatatypeId.{DatatypeId}
use Rattle.csp_expression.specs.declared.name.NametypeId.{NametypeId}
use Rattle.csp_expression.specs.declared.expr.Expr.{Expr, fold-roll-Expr}
use Rattle.csp_expression.specs.declared.expr.Expr.TheVariants as views
use Rattle.csp_expression.specs.declared.expr.Expr.TheOpen as layer
use Rattle.csp_expression.specs.Expression.{expression_of, expressions_of, expression_step}

module _ (A : Type 0) where
  pub of_literal : (v : Value A) → expression_of {A = A} (views.Literal v) ≡ pure.Literal (value_of v)
  of_literal v = ap (expression_of {A = A}) (sym (views.rolls-Literal v)) ∙ fold-roll-Expr A pure.Expression expression_step (layer.Literal v)

  pub of_name : (n : Name) → expression_of {A = A} (views.Name n) ≡ pure.Name n.0
  of_name n = ap (expression_of {A = A}) (sym (views.rolls-Name n)) ∙ fold-roll-Expr A pure.Expression expression_step (layer.Name n)

  pub of_apply : (op : UnaryOperator) (e : Box (Expr A) A) → expression_of {A = A} (views.Apply op e) ≡ pure.Apply (unary_of op) (expression_of e.value)
  of_apply op e = ap (expression_of {A = A}) (sym (views.rolls-Apply op e)) ∙ fold-roll-Expr A pure.Expression expression_step (layer.Apply op e)

  pub of_combine : (op : BinaryOperator) (e f : Box (Expr A) A) → expression_of {A = A} (views.Combine op e f) ≡ pure.Combine (binary_of op) (expression_of e.value) (expression_of f.value)
  of_combine op e f = ap (expression_of {A = A}) (sym (views.rolls-Combine op e f)) ∙ fold-roll-Expr A pure.Expression expression_step (layer.Combine op e f)

  pub of_sequence : (es : Vec (Expr A) A) → expression_of {A = A} (views.Sequence es) ≡ pure.SequenceOf (pure.to_expressions (expressions_of es.items))
  of_sequence es = ap (expression_of {A = A}) (sym (views.rolls-Sequence es)) ∙ fold-roll-Expr A pure.Expression expression_step (layer.Sequence es)

  pub of_set : (es : Vec (Expr A) A) → expression_of {A = A} (views.Set es) ≡ pure.SetOf (pure.to_expressions (expressions_of es.items))
  of_set es = ap (expression_of {A = A}) (sym (views.rolls-Set es)) ∙ fold-roll-Expr A pure.Expression expression_step (layer.Set es)

  pub of_range : (e f : Box (Expr A) A) → expression_of {A = A} (views.Range e f) ≡ pure.Range (expression_of e.value) (expression_of f.value)
  of_range e f = ap (expression_of {A = A}) (sym (views.rolls-Range e f)) ∙ fold-roll-Expr A pure.Expression expression_step (layer.Range e f)

  pub of_booleans : expression_of {A = A} views.Booleans ≡ pure.Booleans
  of_booleans = ap (expression_of {A = A}) (sym views.rolls-Booleans) ∙ fold-roll-Expr A pure.Expression expression_step layer.Booleans

  pub of_datatype : (d : DatatypeId) → expression_of {A = A} (views.Datatype d) ≡ pure.Datatype d.0
  of_datatype d = ap (expression_of {A = A}) (sym (views.rolls-Datatype d)) ∙ fold-roll-Expr A pure.Expression expression_step (layer.Datatype d)

  pub of_nametype : (n : NametypeId) → expression_of {A = A} (views.Nametype n) ≡ pure.Nametype n.0
  of_nametype n = ap (expression_of {A = A}) (sym (views.rolls-Nametype n)) ∙ fold-roll-Expr A pure.Expression expression_step (layer.Nametype n)

  pub of_constructor : (k : ConId) (es : Vec (Expr A) A) → expression_of {A = A} (views.Constructor k es) ≡ pure.ConstructorOf k.0 (pure.to_expressions (expressions_of es.items))
  of_constructor k es = ap (expression_of {A = A}) (sym (views.rolls-Constructor k es)) ∙ fold-roll-Expr A pure.Expression expression_step (layer.Constructor k es)
