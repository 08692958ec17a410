-- A text is refused by its message.
use Rattle.std.proofs.Common.{ℕ, List, sym, subst, ◌∙◌}
use Rattle.program.specs.Given.{sent}
use Rattle.program.specs.Running.{IsGiven}
use Rattle.explain_program.specs.Refusals as refusals
use Rattle.explain_program.proofs.refusals.refuse_text.Goals as goal

pub returns-in-Ok-clause-told : goal.returns-in-Ok-clause-told
returns-in-Ok-clause-told g c =
    let new = c.refuse_words.new.err in
    let P : List ℕ → Type 0 = λ words. IsGiven (sent g.E.Sink.taken g.E.Sink.has_failed c.args.err.now new) words in
    refusals.in_words c.in-Some.refused c.in-Ok.ensures.0 (sym c.in-Some.ensures) (subst P (c.as_str.ensures.value ∙ c.in-Ok.ensures.1) c.refuse_words.ensures.text)
