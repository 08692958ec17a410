-- The command has these arguments, one behind the other.
use Rattle.std.proofs.Common.{◌≡◌, ◌∙◌, ap, ap₂, codes, true}
use Rattle.std.proofs.lemmas.Result.{IfOk-weaker}
use Rattle.clap.specs.Simple.{app_of_fields, new_app, on_top, with_rule}
use Rattle.clap.specs.Words.{app_of}
use Rattle.walk_settings.proofs.command.command_line.Goals as goal

pub returns : goal.returns
returns c =
    let named : app_of c.after_help.result ≡ on_top (λ s. record s { no_binary_name = true; has_version = true }) (new_app (codes "walk")) =
    ap app_of_fields c.after_help.ensures ∙ ap app_of_fields c.about.ensures ∙ ap app_of_fields c.version.ensures
    ∙ ap (on_top (λ s. record s { has_version = true })) (ap app_of_fields c.no_binary_name.ensures ∙ ap (on_top (λ s. record s { no_binary_name = true })) c.new.ensures.app) in
    let one = c.in_ok-arg.ensures.shape c.width_option-width.ensures.local ∙ ap₂ with_rule named c.width_option-width.ensures.rule in
    let two = c.in_ok-arg-2.ensures.shape c.flag-unfolded.ensures.local ∙ ap₂ with_rule one c.flag-unfolded.ensures.rule in
    let three = c.in_ok-arg-3.ensures.shape c.flag-specification.ensures.local ∙ ap₂ with_rule two c.flag-specification.ensures.rule in
    let four = c.in_ok-arg-4.ensures.shape c.file_argument-file.ensures.local ∙ ap₂ with_rule three c.file_argument-file.ensures.rule in
    IfOk-weaker c.arg-5.result _ _ (λ x h. h.shape c.assertion_argument-assertion.ensures.local ∙ ap₂ with_rule four c.assertion_argument-assertion.ensures.rule) c.arg-5.ensures
