use Rattle.std.proofs.Common.{◌≡◌, drop, ◌++◌, ◌+◌, ◌*◌}
use Rattle.std.specs.String.{string_bytes}
use Rattle.theory_syntax.specs.Expression.{to_expressions}
use Rattle.theory_semantics.specs.Meaning.Limits.{expression_size, expressions_size}
use Rattle.csp_expression.specs.Expression.{expression_of, expressions_of}
use Rattle.theory_notation.specs.Expressions.{expressions_behind}
use Rattle.csp_print.specs.Names.{names_of}
use Rattle.csp_print.proofs.expressions.+expression.Given as goal

abbrev pub decreases-push_expression : goal.decreases-push_expression
decreases-push_expression g l = 5 * expression_size (expression_of l.expression.now)

abbrev pub decreases-push_operand : goal.decreases-push_operand
decreases-push_operand g l = 5 * expression_size (expression_of l.operand.now) + 1

abbrev pub decreases-push_applied : goal.decreases-push_applied
decreases-push_applied g l = 5 * expression_size (expression_of l.operand.now) + 2

abbrev pub decreases-push_combined : goal.decreases-push_combined
decreases-push_combined g l = 5 * (expression_size (expression_of l.left.now) + expression_size (expression_of l.right.now)) + 2

abbrev pub decreases-push_range : goal.decreases-push_range
decreases-push_range g l = 5 * (expression_size (expression_of l.from.now) + expression_size (expression_of l.to.now)) + 2

abbrev pub decreases-push_sequence : goal.decreases-push_sequence
decreases-push_sequence g l = 5 * expressions_size (to_expressions (expressions_of l.items.now)) + 4

abbrev pub decreases-push_set : goal.decreases-push_set
decreases-push_set g l = 5 * expressions_size (to_expressions (expressions_of l.members.now)) + 4

abbrev pub decreases-push_constructor : goal.decreases-push_constructor
decreases-push_constructor g l = 5 * expressions_size (to_expressions (expressions_of l.fields.now)) + 4

abbrev pub decreases-push_items : goal.decreases-push_items
decreases-push_items g l = 5 * expressions_size (to_expressions (expressions_of l.items.now)) + 3

abbrev pub decreases-push_expressions_behind : goal.decreases-push_expressions_behind
decreases-push_expressions_behind g l = 5 * expressions_size (to_expressions (expressions_of l.expressions.now)) + 2

abbrev pub invariant-push_expressions_behind-loop-expression : goal.invariant-push_expressions_behind-loop-expression
invariant-push_expressions_behind-loop-expression g l =
    string_bytes l.text ++ expressions_behind (names_of l.names) l.mark l.least (to_expressions (expressions_of (drop l.expression-index l.expressions)))
    ≡ string_bytes l.initial.text ++ expressions_behind (names_of l.names) l.mark l.least (to_expressions (expressions_of l.expressions))
