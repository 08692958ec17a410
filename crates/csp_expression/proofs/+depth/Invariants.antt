use Rattle.csp_value.proofs.Walking.{Decides}
use Rattle.csp_expression.proofs.Measures.{depths}
use Rattle.csp_expression.proofs.+depth.Given as goal

abbrev pub invariant-limits::are_within_depth-loop-expression : goal.invariant-limits::are_within_depth-loop-expression
invariant-limits::are_within_depth-loop-expression g l = Decides depths l.expressions l.most l.expression-index
