-- Each part is put one after the other.
use Rattle.std.proofs.Common.{◌++◌}
use Rattle.std.specs.Prelude.{codes, decimal}
use Rattle.std.specs.String.{string_bytes}
use Rattle.theory_explanation.specs.Counting.{plural_text}
use Rattle.csp_print.proofs.Writing.{alike, behind}
use Rattle.counterexample.proofs.marks.push_amount.Goals as goal

pub returns : goal.returns
returns g c =
    let r = c.push_mark-3.result in
    let start = string_bytes c.args.text.now in
    let all = string_bytes c.push_mark-3.new.text in
    let one = string_bytes c.push_number.new.text in
    let two = string_bytes c.push_mark.new.text in
    let three = string_bytes c.push_mark-2.new.text in
    let n = decimal c.args.number in
    let word = c.args.word.now in
    let more = plural_text c.args.number in
    behind r start one all n (codes " " ++ (word ++ more)) c.in_ok-push_number.ensures
    (behind r one two all (codes " ") (word ++ more) c.in_ok-push_mark.ensures (behind r two three all word more c.in_ok-push_mark-2.ensures (alike r three all _ _ c.plural.ensures c.push_mark-3.ensures)))
