-- Values put into each expression of a list.
use Rattle.std.proofs.Common.{◌≡◌, List, [], ◌∷◌, refl, ap}
use Rattle.theory_syntax.specs.Expression.{to_expressions, expression_and}
use Rattle.theory_semantics.specs.Meaning.Substitution.{Bindings, put_expression, put_expressions}
use Rattle.csp_expression.specs.declared.expr.Expr.{Expr}
use Rattle.csp_expression.specs.Bindings.{puts}
use Rattle.csp_expression.specs.Expression.{expression_of, expressions_of}

pub put_list : {A : Type 0} (bs : Bindings) (es : List (Expr A)) → to_expressions (puts bs es) ≡ put_expressions bs (to_expressions (expressions_of es))
put_list bs [] = refl
put_list bs (e ∷ es) = ap (expression_and (put_expression bs (expression_of e))) (put_list bs es)
