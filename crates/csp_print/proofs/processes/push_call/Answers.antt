-- The arguments stand in brackets, one behind the other.
use Rattle.std.proofs.Common.{List, ◌++◌, ap, sym}
use Rattle.std.specs.Prelude.{codes}
use Rattle.std.specs.String.{string_bytes}
use Rattle.theory_search.specs.Printing.{name_at}
use Rattle.theory_syntax.specs.Expression.{to_expressions}
use Rattle.csp_expression.specs.declared.expr.Expr.{Expr}
use Rattle.csp_expression.specs.Expression.{expression_of, expressions_of}
use Rattle.theory_notation.specs.Told.{all_told, told}
use Rattle.theory_notation.specs.Expressions.{expression_text, expressions_behind}
use Rattle.theory_notation.specs.Processes.{call_text}
use Rattle.csp_print.specs.Names.{names_of}
use Rattle.csp_print.proofs.Writing.{alike, behind}
use Rattle.csp_print.proofs.processes.push_call.Goals as goal

pub returns-in_ok-push_told_behind-in-Some : goal.returns-in_ok-push_told_behind-in-Some
returns-in_ok-push_told_behind-in-Some g c =
    let names = names_of c.args.names.now in
    let r = c.push_mark-in-Some.result in
    let start = string_bytes c.args.text.now in
    let all = string_bytes c.push_mark-in-Some.new.text in
    let name = name_at names.equations c.args.equation.0 in
    let first = expression_text names (told names (expression_of c.in-Some.first.now)) in
    let others = expressions_behind names (codes ",") 0 (all_told names (to_expressions (expressions_of c.in-Some.others.now))) in
    alike r start all _ _ (ap (λ (es : List (Expr g.row.A.Denot)). call_text names c.args.equation.0 (all_told names (to_expressions (expressions_of es)))) (sym c.in-Some.ensures.cases.0))
    (behind r start (string_bytes c.push_equation.new.text) all name (codes "(" ++ (first ++ (others ++ codes ")"))) c.in_ok-push_equation-in-Some.ensures
    (behind r (string_bytes c.push_equation.new.text) (string_bytes c.push_mark.new.text) all (codes "(") (first ++ (others ++ codes ")")) c.in_ok-push_mark-in-Some.ensures
    (behind r (string_bytes c.push_mark.new.text) (string_bytes c.push_told_whole.new.text) all first (others ++ codes ")") c.in_ok-push_told_whole-in-Some.ensures
    (behind r (string_bytes c.push_told_whole.new.text) (string_bytes c.push_told_behind.new.text) all others (codes ")") c.in_ok-push_told_behind-in-Some.ensures
    c.push_mark-in-Some.ensures))))
