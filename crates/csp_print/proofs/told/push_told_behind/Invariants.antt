use Rattle.std.proofs.Common.{◌≡◌, drop, ◌++◌}
use Rattle.std.specs.String.{string_bytes}
use Rattle.theory_syntax.specs.Expression.{to_expressions}
use Rattle.csp_expression.specs.Expression.{expressions_of}
use Rattle.theory_notation.specs.Told.{all_told}
use Rattle.theory_notation.specs.Expressions.{expressions_behind}
use Rattle.csp_print.specs.Names.{names_of}
use Rattle.csp_print.proofs.told.push_told_behind.Given as goal

abbrev pub invariant-loop-expression : goal.invariant-loop-expression
invariant-loop-expression g l =
    string_bytes l.text ++ expressions_behind (names_of l.names) l.mark l.least (all_told (names_of l.names) (to_expressions (expressions_of (drop l.expression-index l.expressions))))
    ≡ string_bytes l.initial.text ++ expressions_behind (names_of l.names) l.mark l.least (all_told (names_of l.names) (to_expressions (expressions_of l.expressions)))
