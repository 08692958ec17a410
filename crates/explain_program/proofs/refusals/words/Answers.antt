-- The message is on the name that is shown, with the lines of what may be meant.
use Rattle.std.proofs.Common.{◌≡◌, ℕ, List, sym, ap, subst, ◌∙◌}
use Rattle.std.specs.Prelude.{IfOk}
use Rattle.std.specs.String.{string_bytes}
use Rattle.theory_objects.specs.Fields.{object_line}
use Rattle.theory_objects.specs.Refusals.{text_fields}
use Rattle.csp_lex.specs.Places.{place_of}
use Rattle.diagnostics.specs.Faults.{fault_number, fault_rule}
use Rattle.diagnostics.specs.Messages.{message_text}
use Rattle.explain_settings.specs.declared.format.Format.{Format}
use Rattle.told_refusals.specs.FileNames.{shown_name}
use Rattle.explain_program.specs.Refusals.{refused_line}
use Rattle.explain_program.proofs.Refusing.{by_object}
use Rattle.explain_program.proofs.refusals.words.Goals as goal

pub returns-in-Text : goal.returns-in-Text
returns-in-Text g c =
    let told = string_bytes c.in_ok-told.told in
    let file = shown_name c.args.settings.now.file.now in
    let meant = c.as_str-meant.result.now in
    let M : List ℕ → Type 0 = λ name. told ≡ message_text name c.args.text.now c.args.refused meant in
    (meant, subst M (c.as_str-file.ensures.value ∙ c.in_ok-name.ensures) c.in_ok-told.ensures ∙ ap (λ (f : Format). refused_line f file c.args.text.now c.args.refused meant) (sym c.in-Text.is))

pub returns : goal.returns
returns g c =
    let told = string_bytes c.in_ok-told.told in
    let file = shown_name c.args.settings.now.file.now in
    let refused = c.args.refused in
    let meant = c.as_str-meant.result.now in
    let r = c.refused_object.result in
    let named = c.as_str-file.ensures.value ∙ c.in_ok-name.ensures in
    let M : List ℕ → Type 0 = λ name. told ≡ message_text name c.args.text.now refused meant in
    let N : List ℕ → List ℕ → Type 0 = λ name words. IfOk r (λ line. string_bytes line ≡ object_line (text_fields name (fault_number refused.fault) (fault_rule refused.fault) (place_of refused.place) meant words)) in
    by_object c.args.settings.now.format r file c.args.text.now meant refused c.in-Json.is
    (subst (N file) (c.as_str.ensures.value ∙ subst M named c.in_ok-told.ensures) (subst (λ name. N name c.as_str.result.now) named c.refused_object.ensures))
