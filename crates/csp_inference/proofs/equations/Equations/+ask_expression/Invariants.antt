use Rattle.std.proofs.Common.{◌+◌, ◌*◌}
use Rattle.theory_syntax.specs.Expression.{to_expressions}
use Rattle.theory_semantics.specs.Meaning.Limits.{expression_size, expressions_size}
use Rattle.csp_expression.specs.Evaluation.{table_of}
use Rattle.csp_expression.specs.Expression.{expression_of, expressions_of}
use Rattle.csp_inference.specs.Chain.{demand_of}
use Rattle.csp_inference.specs.Numbering.{names_of, numbering_of}
use Rattle.csp_inference.proofs.Asking.{Left, LeftBoth}
use Rattle.csp_inference.proofs.AskingArguments.{asked_first}
use Rattle.csp_inference.proofs.AskingExpressions.{asked_expressions, behind_asked}
use Rattle.csp_inference.proofs.equations.Equations.+ask_expression.Given as goal

abbrev pub decreases-ask_expression : goal.decreases-ask_expression
decreases-ask_expression g l = 4 * expression_size (expression_of l.expression.now)

abbrev pub decreases-ask_expressions : goal.decreases-ask_expressions
decreases-ask_expressions g l = 4 * expressions_size (to_expressions (expressions_of l.expressions.now)) + 1

abbrev pub decreases-ask_constructed : goal.decreases-ask_constructed
decreases-ask_constructed g l = 4 * expressions_size (to_expressions (expressions_of l.fields.now)) + 3

abbrev pub decreases-ask_all : goal.decreases-ask_all
decreases-ask_all g l = 4 * expressions_size (to_expressions (expressions_of l.expressions.now)) + 2

abbrev pub decreases-ask_each : goal.decreases-ask_each
decreases-ask_each g l = 4 * expressions_size (to_expressions (expressions_of l.expressions.now)) + 1

abbrev pub invariant-ask_expressions-loop-expression : goal.invariant-ask_expressions-loop-expression
invariant-ask_expressions-loop-expression g l =
    Left (asked_expressions (table_of l.types) (numbering_of l.numbering) (names_of l.names) (demand_of l.kind)) behind_asked l.initial.self l.self l.expressions l.expression-index

abbrev pub invariant-ask_each-loop-index : goal.invariant-ask_each-loop-index
invariant-ask_each-loop-index g l =
    LeftBoth (asked_first (table_of l.types) (numbering_of l.numbering) (names_of l.names)) behind_asked l.initial.self l.self l.expressions l.numbers l.index
