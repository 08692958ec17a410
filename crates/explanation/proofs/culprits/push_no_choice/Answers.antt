-- Each part is put one after the other.
use Rattle.std.proofs.Common.{◌++◌}
use Rattle.std.specs.Prelude.{codes}
use Rattle.std.specs.String.{string_bytes}
use Rattle.theory_notation.specs.Expressions.{expression_text}
use Rattle.theory_search.specs.Printing.{name_at}
use Rattle.csp_expression.specs.Expression.{expression_of}
use Rattle.csp_print.proofs.Writing.{behind}
use Rattle.csp_print.specs.Names.{names_of}
use Rattle.explanation.proofs.culprits.push_no_choice.Goals as goal

pub returns : goal.returns
returns g c =
    let r = c.push_mark-3.result in
    let start = string_bytes c.args.text.now in
    let one = string_bytes c.push_mark.new.text in
    let two = string_bytes c.push_bound.new.text in
    let three = string_bytes c.push_mark-2.new.text in
    let four = string_bytes c.push_expression.new.text in
    let all = string_bytes c.push_mark-3.new.text in
    let name = name_at (names_of c.args.names.now).bound c.args.name.0 in
    let set = expression_text (names_of c.args.names.now) (expression_of c.args.set.now) in
    let last = codes "` has nothing to choose from" in
    behind r start one all (codes "`|~| ") (name ++ (codes ":" ++ (set ++ last))) c.in_ok-push_mark.ensures
    (behind r one two all name (codes ":" ++ (set ++ last)) c.in_ok-push_bound.ensures
    (behind r two three all (codes ":") (set ++ last) c.in_ok-push_mark-2.ensures (behind r three four all set last c.in_ok-push_expression.ensures c.push_mark-3.ensures)))
