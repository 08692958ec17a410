use Rattle.std.proofs.Common.{◌≡◌, ◌∙◌, ap, ap₂, codes, Some, true, false}
use Rattle.std.proofs.lemmas.Result.{IfOk-weaker}
use Rattle.clap.specs.Simple.{app_of_fields, new_app, on_top, with_rule}
use Rattle.clap.specs.Words.{Rule, app_of, rule_of}
use Rattle.clap.specs.declared.builder.arg.Arg.{Arg}
use Rattle.settings.specs.CommandLine.{number_rule}
use Rattle.explain_settings.specs.CommandLine.{count_option}
use Rattle.explain_settings.proofs.command.options_line.Goals as goal

pub returns : goal.returns
returns c =
    let workers_is : rule_of c.help-workers.result ≡ number_rule (codes "workers") (codes "1") 64 = ap rule_of c.help-workers.ensures ∙ c.option.ensures.rule in
    let pairs_is : rule_of c.help-pairs.result ≡ number_rule (codes "max-pairs") (codes "100000") 1000000 = ap rule_of c.help-pairs.ensures ∙ c.option-2.ensures.rule in
    let nodes_is : rule_of c.help-nodes.result ≡ number_rule (codes "max-nodes") (codes "10000") 100000 = ap rule_of c.help-nodes.ensures ∙ c.option-3.ensures.rule in
    let width_is : rule_of c.help-width.result ≡ count_option (codes "width") (codes "200") 1000000 =
    ap rule_of c.help-width.ensures ∙ ap rule_of c.long.ensures ∙ ap (λ (r : Rule). record r { long = Some (codes "width") }) c.count.ensures.rule in
    let width_local : c.help-width.result.global ≡ false = ap (λ (a : Arg). a.global) c.help-width.ensures ∙ ap (λ (a : Arg). a.global) c.long.ensures ∙ c.count.ensures.local in
    let named : app_of c.after_help.result ≡ on_top (λ s. record s { no_binary_name = true; has_version = true }) (new_app (codes "explain")) =
    ap app_of_fields c.after_help.ensures ∙ ap app_of_fields c.about.ensures ∙ ap app_of_fields c.version.ensures
    ∙ ap (on_top (λ s. record s { has_version = true })) (ap app_of_fields c.no_binary_name.ensures ∙ ap (on_top (λ s. record s { no_binary_name = true })) c.new.ensures.app) in
    let one = c.in_ok-arg.ensures.shape (ap (λ (a : Arg). a.global) c.help-workers.ensures ∙ c.option.ensures.local) ∙ ap₂ with_rule named workers_is in
    let two = c.in_ok-arg-2.ensures.shape (ap (λ (a : Arg). a.global) c.help-pairs.ensures ∙ c.option-2.ensures.local) ∙ ap₂ with_rule one pairs_is in
    let three = c.in_ok-arg-3.ensures.shape (ap (λ (a : Arg). a.global) c.help-nodes.ensures ∙ c.option-3.ensures.local) ∙ ap₂ with_rule two nodes_is in
    let four = c.in_ok-arg-4.ensures.shape c.flag-unfolded.ensures.local ∙ ap₂ with_rule three c.flag-unfolded.ensures.rule in
    let five = c.in_ok-arg-5.ensures.shape width_local ∙ ap₂ with_rule four width_is in
    let six = c.in_ok-arg-6.ensures.shape c.flag-counted.ensures.local ∙ ap₂ with_rule five c.flag-counted.ensures.rule in
    let seven = c.in_ok-arg-7.ensures.shape c.flag-events.ensures.local ∙ ap₂ with_rule six c.flag-events.ensures.rule in
    let eight = c.in_ok-arg-8.ensures.shape c.flag-steps.ensures.local ∙ ap₂ with_rule seven c.flag-steps.ensures.rule in
    IfOk-weaker c.arg-9.result _ _ (λ x h. h.shape c.format-format.ensures.local ∙ ap₂ with_rule eight c.format-format.ensures.rule) c.arg-9.ensures
