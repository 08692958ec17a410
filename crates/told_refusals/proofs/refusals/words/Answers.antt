-- The message is on the name that is shown.
use Rattle.std.proofs.Common.{ℕ, List, subst, ◌∙◌}
use Rattle.std.specs.Prelude.{IfOk}
use Rattle.std.specs.String.{string_bytes}
use Rattle.diagnostics.specs.Messages.{IsMessage}
use Rattle.told_refusals.proofs.refusals.words.Goals as goal

pub returns : goal.returns
returns g c =
    let P : List ℕ → Type 0 = λ name. IfOk c.message.result (λ words. IsMessage name c.args.text.now c.args.refused (string_bytes words)) in
    subst P (c.as_str.ensures.value ∙ c.in_ok-name.ensures) c.message.ensures
