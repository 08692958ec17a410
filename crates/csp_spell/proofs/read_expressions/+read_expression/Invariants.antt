use Rattle.std.proofs.Common.{◌≡◌, ◌+◌, ◌*◌, ◌-◌}
use Rattle.csp_expression.specs.Expression.{expressions_of}
use Rattle.theory_spelling.specs.Reading.{items_at, expression_at}
use Rattle.csp_spell.proofs.Repeating.{with_front}
use Rattle.csp_spell.proofs.read_expressions.+read_expression.Given as goal

abbrev pub decreases-read_expression : goal.decreases-read_expression
decreases-read_expression g l = 4 * l.depth

abbrev pub decreases-read_each_expression : goal.decreases-read_each_expression
decreases-read_each_expression g l = 4 * l.depth + 1

abbrev pub decreases-read_expressions : goal.decreases-read_expressions
decreases-read_expressions g l = 4 * l.depth + 2

abbrev pub decreases-read_range : goal.decreases-read_range
decreases-read_range g l = 4 * l.depth + 1

abbrev pub decreases-read_operands : goal.decreases-read_operands
decreases-read_operands g l = 4 * l.depth + 1

abbrev pub decreases-read_operation : goal.decreases-read_operation
decreases-read_operation g l = 4 * l.depth + 2

abbrev pub decreases-read_tagged : goal.decreases-read_tagged
decreases-read_tagged g l = 4 * l.depth + 3

abbrev pub invariant-read_each_expression-loop : goal.invariant-read_each_expression-loop
invariant-read_each_expression-loop g l = with_front (expressions_of l.expressions.items) (items_at (expression_at l.depth) (l.count - l.counter) l.rest) ≡ items_at (expression_at l.depth) l.count l.fn.bytes
