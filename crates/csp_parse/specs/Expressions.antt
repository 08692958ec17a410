-- Expressions, as the definitions have them.
use Rattle.std.specs.Prelude.{List, map}
use Rattle.std.specs.Box.{box_value}
use Rattle.theory_syntax.specs.Operators.{unary_of, binary_of}
use Rattle.theory_text.specs.Raw.{RawExpression, RawNumber, RawTruth, RawBooleans, RawUse, RawApply, RawCombine, RawSequence, RawSet, RawRange, RawConstructor, RawExpressions}
use Rattle.theory_reader.specs.Forms.{raw_list}
use Rattle.csp_parse.specs.declared.expressions.Expression.{Expression}
use Rattle.csp_parse.specs.declared.expressions.Expression.TheOpen as layer
use Rattle.csp_parse.specs.declared.expressions.Expression.TheFolds.{fold-Expression}
use Rattle.csp_parse.specs.Names.{name_of}

-- one layer, with the trees of the parts in their places
abbrev pub expression_step : {A : Type 0} → layer.Expression-F A RawExpression → RawExpression
expression_step (layer.Number n) = RawNumber n
expression_step (layer.Truth b) = RawTruth b
expression_step layer.Booleans = RawBooleans
expression_step (layer.Use n) = RawUse (name_of n)
expression_step (layer.Apply o e) = RawApply (unary_of o) (box_value e)
expression_step (layer.Combine o e f) = RawCombine (binary_of o) (box_value e) (box_value f)
expression_step (layer.Sequence es) = RawSequence (raw_list es.items)
expression_step (layer.Set es) = RawSet (raw_list es.items)
expression_step (layer.Range e f) = RawRange (box_value e) (box_value f)
expression_step (layer.Constructor n es) = RawConstructor (name_of n) (raw_list es.items)

abbrev pub expression_of : {A : Type 0} → Expression A → RawExpression
expression_of {A} = fold-Expression A RawExpression expression_step

abbrev pub expressions_in : {A : Type 0} → List (Expression A) → List RawExpression
expressions_in es = map expression_of es

abbrev pub expressions_of : {A : Type 0} → List (Expression A) → RawExpressions
expressions_of es = raw_list (expressions_in es)
