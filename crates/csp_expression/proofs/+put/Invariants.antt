use Rattle.std.proofs.Common.{◌≡◌, take}
use Rattle.csp_expression.specs.Bindings.{bindings_of, puts}
use Rattle.csp_expression.specs.Expression.{expressions_of}
use Rattle.csp_expression.proofs.+put.Given as goal

abbrev pub invariant-substitution::put_in_all-loop-expression :
    goal.invariant-substitution::put_in_all-loop-expression
invariant-substitution::put_in_all-loop-expression g l =
    expressions_of l.all.items ≡ puts (bindings_of l.bindings) (take l.expression-index l.expressions)
