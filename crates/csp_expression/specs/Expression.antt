-- The expression that one of the code stands for.
use Rattle.std.specs.Prelude.{List, map}
use Rattle.std.specs.Box.{box_value}
use Rattle.theory_syntax.specs.Expression as pure
use Rattle.theory_syntax.specs.Operators.{unary_of, binary_of}
use Rattle.csp_value.specs.Value.{value_of}
use Rattle.csp_expression.specs.declared.expr.Expr.{Expr}
use Rattle.csp_expression.specs.declared.expr.Expr.TheOpen as layer
use Rattle.csp_expression.specs.declared.expr.Expr.TheFolds.{fold-Expr}

-- one layer, with the expressions of the parts in their places
abbrev pub expression_step : {A : Type 0} → layer.Expr-F A pure.Expression → pure.Expression
expression_step (layer.Literal v) = pure.Literal (value_of v)
expression_step (layer.Name n) = pure.Name n.0
expression_step (layer.Apply op e) = pure.Apply (unary_of op) (box_value e)
expression_step (layer.Combine op e f) = pure.Combine (binary_of op) (box_value e) (box_value f)
expression_step (layer.Sequence es) = pure.SequenceOf (pure.to_expressions es.items)
expression_step (layer.Set es) = pure.SetOf (pure.to_expressions es.items)
expression_step (layer.Range e f) = pure.Range (box_value e) (box_value f)
expression_step layer.Booleans = pure.Booleans
expression_step (layer.Datatype d) = pure.Datatype d.0
expression_step (layer.Nametype n) = pure.Nametype n.0
expression_step (layer.Constructor k es) = pure.ConstructorOf k.0 (pure.to_expressions es.items)

abbrev pub expression_of : {A : Type 0} → Expr A → pure.Expression
expression_of {A} = fold-Expr A pure.Expression expression_step

abbrev pub expressions_of : {A : Type 0} → List (Expr A) → List pure.Expression
expressions_of es = map expression_of es
