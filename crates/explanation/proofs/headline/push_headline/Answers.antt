-- Each part is put one after the other.
use Rattle.std.proofs.Common.{◌≡◌, ◌++◌, ap, ◌∙◌}
use Rattle.std.specs.Prelude.{codes, decimal}
use Rattle.std.specs.String.{string_bytes}
use Rattle.theory_search.specs.Answer.{as_written}
use Rattle.csp_term.specs.Script.{assertion_of}
use Rattle.verdict.specs.Outcome.{outcome_of}
use Rattle.theory_explanation.specs.Headline.{assertion_text, outcome_word}
use Rattle.csp_print.specs.Names.{names_of}
use Rattle.csp_print.proofs.Writing.{behind}
use Rattle.explanation.proofs.headline.push_headline.Goals as goal

pub returns : goal.returns
returns g c =
    let r = c.push_mark-4.result in
    let start = string_bytes c.args.text.now in
    let all = string_bytes c.push_mark-4.new.text in
    let one = string_bytes c.push_number.new.text in
    let two = string_bytes c.push_mark.new.text in
    let three = string_bytes c.push_mark-2.new.text in
    let four = string_bytes c.push_mark-3.new.text in
    let five = string_bytes c.push_assertion.new.text in
    let n = decimal c.args.number in
    let word = outcome_word (as_written c.args.assertion.now.negated (outcome_of c.args.found.now)) in
    let a = assertion_text (names_of c.args.names.now) (assertion_of c.args.assertion.now) in
    let said : three ≡ two ++ word = c.in_ok-push_mark-2.ensures ∙ ap (λ ts. two ++ ts) c.outcome_word.ensures in
    behind r start one all n (codes " " ++ (word ++ (codes "  assert " ++ (a ++ codes "\n")))) c.in_ok-push_number.ensures
    (behind r one two all (codes " ") (word ++ (codes "  assert " ++ (a ++ codes "\n"))) c.in_ok-push_mark.ensures
    (behind r two three all word (codes "  assert " ++ (a ++ codes "\n")) said
    (behind r three four all (codes "  assert ") (a ++ codes "\n") c.in_ok-push_mark-3.ensures
    (behind r four five all a (codes "\n") c.in_ok-push_assertion.ensures c.push_mark-4.ensures))))
