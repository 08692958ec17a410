-- A file that cannot be read is told by its name, or by its line.
use Rattle.std.proofs.Common.{ℕ, List, refl, subst, ◌∙◌}
use Rattle.program.specs.Given.{sent}
use Rattle.program.specs.Running.{IsGiven}
use Rattle.told_refusals.specs.Refusals as refusals
use Rattle.told_refusals.proofs.refusals.refuse_name.Goals as goal

pub returns-in-Ok-clause-told : goal.returns-in-Ok-clause-told
returns-in-Ok-clause-told g c =
    let new = c.refuse_words.new.err in
    let P : List ℕ → Type 0 = λ words. IsGiven (sent g.E.Sink.taken g.E.Sink.has_failed c.args.err.now new) words in
    refusals.by_name c.args.why refl (subst P (c.as_str.ensures.value ∙ c.in-Ok.ensures) c.refuse_words.ensures.text)

pub returns-in-Err-clause-told : goal.returns-in-Err-clause-told
returns-in-Err-clause-told g c = refusals.by_line c.refuse.ensures.line
