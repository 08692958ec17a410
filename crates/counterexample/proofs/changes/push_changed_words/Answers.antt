-- The words that are the same at the front and at the end are counted, and the others are put.
use Rattle.std.proofs.Common.{◌≡◌, ◌-◌, ℕ, List, Bor, drop, reverse, ◌∙◌, ap}
use Rattle.std.specs.String.{string_bytes}
use Rattle.theory_explanation.specs.Changing.{changed_part, middle_text, same_words}
use Rattle.counterexample.specs.Texts.{texts_of}
use Rattle.counterexample.proofs.Parts.{behind_same}
use Rattle.csp_print.proofs.Writing.{alike}
use Rattle.counterexample.proofs.changes.push_changed_words.Goals as goal

pub returns : goal.returns
returns g c =
    let old = texts_of c.args.old.now in
    let new = texts_of c.args.new.now in
    let f = c.same_words-front.result in
    let b = same_words (reverse (drop f old)) (reverse (drop f new)) in
    let ended : texts_of c.deref.result.now ≡ reverse (drop f old) = ap texts_of (c.deref.ensures.value ∙ c.in_ok-old_behind.ensures) ∙ behind_same c.args.old.now f in
    let ends : texts_of c.deref-2.result.now ≡ reverse (drop f new) = ap texts_of (c.deref-2.ensures.value ∙ c.in_ok-new_behind.ensures) ∙ behind_same c.args.new.now f in
    let back : c.same_words-back.result ≡ b =
    c.same_words-back.ensures.count ∙ ap (λ ws. same_words ws (texts_of c.deref-2.result.now)) ended ∙ ap (λ ws. same_words (reverse (drop f old)) ws) ends in
    let same =
    ap (λ (k : ℕ). middle_text k c.saturating_sub-2.result new) c.saturating_sub.ensures
    ∙ ap (λ (k : ℕ). middle_text (f - 3) k new) (c.saturating_sub-2.ensures ∙ ap (λ (k : ℕ). k - 3) back)
    ∙ ap (λ (k : ℕ). changed_part k old new) c.same_words-front.ensures.count in
    alike c.push_part.result (string_bytes c.args.text.now) (string_bytes c.push_part.new.text) _ _ same c.push_part.ensures
