use Rattle.std.proofs.Common.{◌+◌, ◌*◌}
use Rattle.csp_parse.specs.Expressions.{expression_of, expressions_of}
use Rattle.csp_names.proofs.Expressions.{Resolving}
use Rattle.csp_names.proofs.Sizes.{raw_size, raw_sizes}
use Rattle.csp_names.proofs.scope.Scope.+resolve_expression.Given as goal

abbrev pub decreases-resolve_expression : goal.decreases-resolve_expression
decreases-resolve_expression g l = 2 * raw_size (expression_of l.expression.now)

abbrev pub decreases-resolve_expressions : goal.decreases-resolve_expressions
decreases-resolve_expressions g l = 2 * raw_sizes (expressions_of l.expressions.now) + 1

abbrev pub invariant-resolve_expressions-loop-expression : goal.invariant-resolve_expressions-loop-expression
invariant-resolve_expressions-loop-expression g l = Resolving l.self l.bound l.expressions l.expression-index l.resolved.items
