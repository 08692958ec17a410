-- Each field behind the other.
use Rattle.std.proofs.Common.{◌≡◌, ℕ, List, [], ◌∷◌, ◌++◌, ap, subst, ◌∙◌, inl, inr, lit<}
use Rattle.std.specs.Prelude.{codes, option_map}
use Rattle.theory_search.specs.Answer.{as_written}
use Rattle.theory_explanation.specs.Headline.{assertion_text, outcome_word}
use Rattle.theory_objects.specs.Answers.{placed_fields}
use Rattle.theory_objects.specs.Fields.{Field, field_tokens, number_field, text_field}
use Rattle.csp_lex.specs.Places.{place_of}
use Rattle.csp_term.specs.Script.{assertion_of}
use Rattle.csp_print.specs.Names.{names_of}
use Rattle.verdict.specs.Outcome.{outcome_of}
use Rattle.explanation_objects.specs.Putting.{Puts}
use Rattle.explanation_objects.proofs.Putting.{HasPut, both}
use Rattle.explanation_objects.proofs.answers.put_head.Goals as goal

pub returns : goal.returns
returns g c =
    let a = c.args.answered.now in
    let r = c.put_text-2.result in
    let one = c.put_number.new.writer in
    let two = c.put_placed.new.writer in
    let three = c.put_text.new.writer in
    let new = c.put_text-2.new.writer in
    let text = assertion_text (names_of c.args.names.now) (assertion_of a.assertion.now) in
    let word = outcome_word (as_written a.assertion.now.negated (outcome_of a.found.now)) in
    let number = number_field (codes "number") a.number ∷ [] in
    let placed = placed_fields (option_map place_of a.place) in
    let said = λ (t : List ℕ). text_field (codes "assertion") t ∷ [] in
    let answer = λ (t : List ℕ). text_field (codes "answer") t ∷ [] in
    let written : c.as_str.result.now ≡ text = c.as_str.ensures.value ∙ c.in_ok-push_assertion.ensures ∙ ap (λ ts. ts ++ text) c.new-assertion.ensures.bytes in
    let third = subst (λ (t : List ℕ). HasPut two three (field_tokens (said t))) written c.in_ok-put_text.ensures in
    let last = subst (λ (t : List ℕ). Puts r three new (answer t)) c.answer_word.ensures c.put_text-2.ensures in
    both r c.args.writer.now one new number (placed ++ (said text ++ answer word)) c.in_ok-put_number.ensures
    (both r one two new placed (said text ++ answer word) c.in_ok-put_placed.ensures (both r two three new (said text) (answer word) third last))

pub answer_word-requires : goal.answer_word-requires
answer_word-requires g c =
    elim g.met.A.AllocHandle.small [
      | inl e ↦ rw (e.0, e.1) (lit< tt)
      | inr e ↦ rw (e.0, e.1) (lit< tt)
    ]
