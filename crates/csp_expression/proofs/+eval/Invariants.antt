use Rattle.theory_semantics.specs.Meaning.Substitution.{put_expression}
use Rattle.csp_expression.specs.Bindings.{bindings_of}
use Rattle.csp_expression.specs.Evaluation.{table_of}
use Rattle.csp_expression.specs.Expression.{expression_of}
use Rattle.csp_expression.proofs.Evaluating.{FoundSoFar}
use Rattle.csp_expression.proofs.GivenFields.{GivenSoFar}
use Rattle.csp_expression.proofs.+eval.Given as goal

abbrev pub invariant-eval::look_at_all-loop-expression : goal.invariant-eval::look_at_all-loop-expression
invariant-eval::look_at_all-loop-expression g l = FoundSoFar (table_of l.types) (bindings_of l.bindings) l.expressions l.expression-index l.all.items

abbrev pub invariant-eval::look_at_fields-loop-place : goal.invariant-eval::look_at_fields-loop-place
invariant-eval::look_at_fields-loop-place g l = GivenSoFar (table_of l.types) (λ e. put_expression (bindings_of l.bindings) (expression_of e)) l.fields l.sets l.place l.all.items
