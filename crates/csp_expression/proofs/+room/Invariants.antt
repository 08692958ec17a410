use Rattle.csp_value.proofs.Walking.{Left}
use Rattle.csp_expression.proofs.Measures.{sizes}
use Rattle.csp_expression.proofs.+room.Given as goal

abbrev pub invariant-limits::room_left_by-loop-expression : goal.invariant-limits::room_left_by-loop-expression
invariant-limits::room_left_by-loop-expression g l = Left sizes l.expressions l.room l.expression-index l.rest
