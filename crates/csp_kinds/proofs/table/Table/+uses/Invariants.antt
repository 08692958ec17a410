use Rattle.std.proofs.Common.{◌≡◌, ◌+◌, ◌*◌}
use Rattle.std.specs.Prelude.{drop}
use Rattle.theory_syntax.specs.Expression.{to_expressions}
use Rattle.theory_semantics.specs.Meaning.Limits.{expression_size, expressions_size}
use Rattle.csp_expression.specs.Expression.{expression_of, expressions_of}
use Rattle.csp_kinds.proofs.Using.{has_each}
use Rattle.csp_kinds.proofs.table.Table.+uses.Given as goal

abbrev pub decreases-has_all : goal.decreases-has_all
decreases-has_all g l = 2 * expression_size (expression_of l.expression.now)

abbrev pub decreases-has_all_in : goal.decreases-has_all_in
decreases-has_all_in g l = 2 * expressions_size (to_expressions (expressions_of l.expressions.now)) + 1

abbrev pub invariant-has_all_in-loop-expression : goal.invariant-has_all_in-loop-expression
invariant-has_all_in-loop-expression g l = has_each l.self (drop l.expression-index l.expressions) ≡ has_each l.self l.expressions
