-- Each part is put one after the other.
use Rattle.std.proofs.Common.{◌++◌}
use Rattle.std.specs.Prelude.{codes}
use Rattle.std.specs.String.{string_bytes}
use Rattle.theory_explanation.specs.Culprits.{why_text}
use Rattle.theory_notation.specs.Expressions.{expression_text}
use Rattle.csp_expression.specs.Cause.{cause_of}
use Rattle.csp_expression.specs.Expression.{expression_of}
use Rattle.csp_print.proofs.Writing.{alike, behind}
use Rattle.csp_print.specs.Names.{names_of}
use Rattle.explanation.proofs.culprits.push_valueless.Goals as goal

pub returns : goal.returns
returns g c =
    let r = c.push_mark-3.result in
    let start = string_bytes c.args.text.now in
    let one = string_bytes c.push_mark.new.text in
    let two = string_bytes c.push_expression.new.text in
    let three = string_bytes c.push_mark-2.new.text in
    let all = string_bytes c.push_mark-3.new.text in
    let e = expression_text (names_of c.args.names.now) (expression_of c.args.expression.now) in
    let why = why_text (expression_of c.args.expression.now) (cause_of c.args.cause) in
    behind r start one all (codes "`") (e ++ (codes "` has no value: " ++ why)) c.in_ok-push_mark.ensures
    (behind r one two all e (codes "` has no value: " ++ why) c.in_ok-push_expression.ensures
    (behind r two three all (codes "` has no value: ") why c.in_ok-push_mark-2.ensures (alike r three all _ _ c.why.ensures c.push_mark-3.ensures)))
