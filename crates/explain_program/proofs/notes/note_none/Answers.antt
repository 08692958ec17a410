-- Where there is none, the note is given, and else nothing.
use Rattle.std.proofs.Common.{◌≡◌, ℕ, List, [], map, ap, refl, sym, subst, ◌∙◌}
use Rattle.csp_term.specs.Script.{assertion_of}
use Rattle.program.specs.Given.{sent}
use Rattle.program.specs.Running.{IsGiven}
use Rattle.program.proofs.Giving.{given}
use Rattle.explain_program.proofs.Refusing.{nothing_in, something_in}
use Rattle.explain_program.proofs.notes.note_none.Goals as goal

pub returns-then-is_empty : goal.returns-then-is_empty
returns-then-is_empty g c =
    let err = sent g.E.Sink.taken g.E.Sink.has_failed c.args.err.now c.push_all.new.sink in
    let none = nothing_in c.assertions.result.now (sym c.is_empty.ensures ∙ c.if-is_empty.true) in
    let P : List ℕ → Type 0 = λ text. IsGiven err text in
    let text = c.as_bytes.ensures.value ∙ c.none_text.ensures in
    record {
      none = λ e. subst P text (given err c.as_bytes.result.now c.push_all.result c.push_all.ensures.whole c.push_all.ensures.beginning);
      some = λ some. absurd (some (sym c.assertions.ensures.value ∙ ap (map assertion_of) none));
    }

pub returns-else-is_empty : goal.returns-else-is_empty
returns-else-is_empty g c = record {
  none = λ none. absurd (something_in assertion_of c.assertions.result.now (sym c.is_empty.ensures ∙ c.if-is_empty.false) (c.assertions.ensures.value ∙ none));
  some = λ some. refl;
}
