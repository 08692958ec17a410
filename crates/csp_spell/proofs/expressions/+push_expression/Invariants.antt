use Rattle.std.proofs.Common.{◌+◌, ◌*◌}
use Rattle.theory_syntax.specs.Expression.{to_expressions}
use Rattle.theory_semantics.specs.Meaning.Limits.{expression_size, expressions_size}
use Rattle.csp_expression.specs.Expression.{expression_of, expressions_of}
use Rattle.theory_spelling.specs.Spelling.{expression_spelling}
use Rattle.theory_spelling.specs.Ranges.{IsInRangeExpression}
use Rattle.csp_spell.proofs.Pushing.{Put, Gone}
use Rattle.csp_spell.proofs.expressions.+push_expression.Given as goal

abbrev pub invariant-push_expressions-loop-expression : goal.invariant-push_expressions-loop-expression
invariant-push_expressions-loop-expression g l = Put expression_spelling expression_of l.expressions l.fn.bytes.items l.bytes.items l.expression-index × Gone IsInRangeExpression expression_of l.expressions l.expression-index

abbrev pub decreases-push_expression : goal.decreases-push_expression
decreases-push_expression g l = 2 * expression_size (expression_of l.expression.now)

abbrev pub decreases-push_expressions : goal.decreases-push_expressions
decreases-push_expressions g l = 2 * expressions_size (to_expressions (expressions_of l.expressions.now)) + 1
