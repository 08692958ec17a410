-- The flag for progress, the file and the number stand behind the other options.
use Rattle.std.proofs.Common.{◌∙◌, ap₂}
use Rattle.std.proofs.lemmas.Result.{IfOk-weaker}
use Rattle.clap.specs.Simple.{with_rule}
use Rattle.explain_settings.proofs.command.command_line.Goals as goal

pub returns : goal.returns
returns c =
    let one = c.in_ok-arg.ensures.shape c.flag-progress.ensures.local ∙ ap₂ with_rule c.in_ok-options_line.ensures c.flag-progress.ensures.rule in
    let two = c.in_ok-arg-2.ensures.shape c.file-file.ensures.local ∙ ap₂ with_rule one c.file-file.ensures.rule in
    IfOk-weaker c.arg-3.result _ _ (λ x h. h.shape c.assertion-assertion.ensures.local ∙ ap₂ with_rule two c.assertion-assertion.ensures.rule) c.arg-3.ensures
