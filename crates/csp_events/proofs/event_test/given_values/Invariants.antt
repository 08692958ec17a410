-- The values of the fields so far.
use Rattle.csp_expression.specs.Evaluation.{table_of}
use Rattle.csp_expression.specs.Expression.{expression_of}
use Rattle.csp_expression.proofs.GivenFields.{GivenSoFar}
use Rattle.csp_events.proofs.event_test.given_values.Given as goal

abbrev pub invariant-loop-place : goal.invariant-loop-place
invariant-loop-place g l = GivenSoFar (table_of l.types) (λ e. expression_of e) l.fields l.sets l.place l.values.items
