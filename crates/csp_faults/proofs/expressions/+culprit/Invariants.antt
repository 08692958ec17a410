-- What is to blame in the list is to blame behind what was looked at.
use Rattle.std.proofs.Common.{◌≡◌, drop}
use Rattle.theory_syntax.specs.Expression.{to_expressions}
use Rattle.theory_faults.specs.Expressions.{first_culprit, given_culprit}
use Rattle.csp_value.specs.Fields.{sets_of}
use Rattle.csp_expression.specs.Evaluation.{table_of}
use Rattle.csp_expression.specs.Expression.{expressions_of}
use Rattle.csp_faults.specs.Culprit.{owner_of}
use Rattle.csp_faults.proofs.expressions.+culprit.Given as goal

abbrev pub invariant-first_culprit-loop-expression : goal.invariant-first_culprit-loop-expression
invariant-first_culprit-loop-expression g l =
    first_culprit (table_of l.types) (to_expressions (expressions_of (drop l.expression-index l.expressions))) ≡ first_culprit (table_of l.types) (to_expressions (expressions_of l.expressions))

abbrev pub invariant-given_culprit-loop-before : goal.invariant-given_culprit-loop-before
invariant-given_culprit-loop-before g l =
    given_culprit (table_of l.types) (owner_of l.owner) l.before (to_expressions (expressions_of (drop l.before l.fields))) (sets_of (drop l.before l.sets))
    ≡ given_culprit (table_of l.types) (owner_of l.owner) 0 (to_expressions (expressions_of l.fields)) (sets_of l.sets)
