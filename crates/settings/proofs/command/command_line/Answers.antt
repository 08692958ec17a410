use Rattle.std.proofs.Common.{rules, ◌≡◌, ◌∙◌, ap, ap₂, codes, true, false}
use Rattle.std.proofs.lemmas.Result.{IfOk-weaker}
use Rattle.clap.specs.Simple.{app_of_fields, new_app, on_top, with_rule}
use Rattle.clap.specs.Words.{app_of, rule_of}
use Rattle.clap.specs.declared.builder.arg.Arg.{Arg}
use Rattle.settings.specs.CommandLine.{file_rule, number_rule}
use Rattle.settings.proofs.command.command_line.Goals as goal

-- src/command.rt:12:1
pub returns : goal.returns
returns c =
    let workers_is : rule_of c.help-workers.result ≡ number_rule (codes "workers") (codes "1") 64 = ap rule_of c.help-workers.ensures ∙ c.number.ensures.rule in
    let pairs_is : rule_of c.help-pairs.result ≡ number_rule (codes "max-pairs") (codes "100000") 1000000 = ap rule_of c.help-pairs.ensures ∙ c.number-2.ensures.rule in
    let nodes_is : rule_of c.help-nodes.result ≡ number_rule (codes "max-nodes") (codes "10000") 100000 = ap rule_of c.help-nodes.ensures ∙ c.number-3.ensures.rule in
    let file_is : rule_of c.action-file.result ≡ file_rule = search rules in
    let file_local : c.action-file.result.global ≡ false = search rules in
    let named : app_of c.after_help.result ≡ on_top (λ s. record s { no_binary_name = true; has_version = true }) (new_app (codes "refcheck")) =
    ap app_of_fields c.after_help.ensures ∙ ap app_of_fields c.about.ensures ∙ ap app_of_fields c.version.ensures
    ∙ ap (on_top (λ s. record s { has_version = true })) (ap app_of_fields c.no_binary_name.ensures ∙ ap (on_top (λ s. record s { no_binary_name = true })) c.new-2.ensures.app) in
    let one = c.in_ok-arg.ensures.shape (ap (λ (a : Arg). a.global) c.help-workers.ensures ∙ c.number.ensures.local) ∙ ap₂ with_rule named workers_is in
    let two = c.in_ok-arg-2.ensures.shape (ap (λ (a : Arg). a.global) c.help-pairs.ensures ∙ c.number-2.ensures.local) ∙ ap₂ with_rule one pairs_is in
    let three = c.in_ok-arg-3.ensures.shape (ap (λ (a : Arg). a.global) c.help-nodes.ensures ∙ c.number-3.ensures.local) ∙ ap₂ with_rule two nodes_is in
    let four = c.in_ok-arg-4.ensures.shape c.flag-unfolded.ensures.local ∙ ap₂ with_rule three c.flag-unfolded.ensures.rule in
    IfOk-weaker c.arg-5.result _ _ (λ x h. h.shape file_local ∙ ap₂ with_rule four file_is) c.arg-5.ensures
