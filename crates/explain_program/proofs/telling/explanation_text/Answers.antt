-- What is told stands with its size, or alone.
use Rattle.std.proofs.Common.{◌≡◌, ℕ, List, Option, refl, sym, subst, inl, inr, lit<, lit≤}
use Rattle.std.specs.String.{string_bytes}
use Rattle.theory_syntax.specs.Value.{Action}
use Rattle.theory_search.specs.Answer.{as_written}
use Rattle.theory_explanation.specs.Accounts.{told_text}
use Rattle.theory_explanation.specs.Styles.{Style}
use Rattle.theory_explanation.specs.Telling.{IsAccount, IsTold}
use Rattle.theory_objects.specs.Answers.{answer_fields}
use Rattle.theory_objects.specs.Fields.{object_line}
use Rattle.csp_term.specs.Script.{assertion_of, script_of}
use Rattle.counterexample.specs.Styles.{style_of}
use Rattle.explanation.specs.Accounts.{account_of}
use Rattle.explanation.specs.Running.{HasStop}
use Rattle.verdict.specs.Outcome.{outcome_of}
use Rattle.explain_program.specs.Asking.{request_of}
use Rattle.named_scripts.specs.Naming.{labels_of}
use Rattle.explain_program.specs.Telling.{answered, sizes_asked}
use Rattle.explain_program.proofs.Tellings.{told_by_object, told_in_words}
use Rattle.explain_program.proofs.telling.explanation_text.Goals as goal

pub lent-requires : goal.lent-requires
lent-requires g c =
    elim g.met.A.AllocHandle.small [
      | inl e ↦ rw (e.0, e.1) (lit< tt)
      | inr e ↦ rw (e.0, e.1) (lit< tt)
    ]

pub find_account-requires : goal.find_account-requires
find_account-requires g c =
    let S : Option (List Action) → Type 0 = HasStop (script_of c.args.named.now.script) (assertion_of c.args.question.now.asked.now) (outcome_of c.args.answer.now.found) in
    let stop = subst S (sym c.lent.ensures) c.requires.stop in
    let terms = c.requires.terms in
    let written = c.requires.written in
    let shown = c.requires.shown in
    elim g.met.A.AllocHandle.small [ inl e ↦ rw (e.0, e.1) (search (lit≤, lit<, terms, written, shown, stop)) | inr e ↦ rw (e.0, e.1) (search (lit≤, lit<, terms, written, shown, stop)) ]

pub tell-requires : goal.tell-requires
tell-requires g c =
    let is = c.in_ok-account.ensures in
    elim g.met.A.AllocHandle.small [ inl e ↦ rw (e.0, e.1) (search (lit≤, lit<, is)) | inr e ↦ rw (e.0, e.1) (search (lit≤, lit<, is)) ]

pub returns-in-Text : goal.returns-in-Text
returns-in-Text g c =
    let script = script_of c.args.named.now.script in
    let n = c.args.question.now.number in
    let w = assertion_of c.args.question.now.written.now in
    let a = assertion_of c.args.question.now.asked.now in
    let found = outcome_of c.args.answer.now.found in
    let o = as_written w.negated found in
    let account = account_of c.in_ok-account.account in
    let words = string_bytes c.in_ok-text.text in
    let W : Style → Type 0 = λ style. IsTold style script n w a o words in
    let told : IsTold (style_of c.style-style.result) script n w a o words = (found, account, refl, c.in_ok-account.ensures, c.in_ok-text.ensures) in
    told_in_words (request_of c.args.settings.now) script (labels_of c.args.named.now) n w a o c.in_words.result words c.args.answer.now.size c.in-Text.is
    (subst W c.style-style.ensures told) c.requires.size c.in_words.ensures

pub returns : goal.returns
returns g c =
    let script = script_of c.args.named.now.script in
    let labels = labels_of c.args.named.now in
    let n = c.args.question.now.number in
    let w = assertion_of c.args.question.now.written.now in
    let a = assertion_of c.args.question.now.asked.now in
    let found = outcome_of c.args.answer.now.found in
    let o = as_written w.negated found in
    let account = account_of c.in_ok-account.account in
    let words = string_bytes c.in_ok-text.text in
    let line = string_bytes c.in_ok-object_line-in-Json.field-0 in
    let A : Style → Type 0 = λ style. IsAccount style script w a found account in
    let W : Style → Type 0 = λ style. words ≡ told_text style script n w a found account in
    let F : List ℕ → Type 0 = λ ws. line ≡ object_line (answer_fields labels.names (answered labels n w found account ws) (sizes_asked c.args.settings.now.count w.property c.args.answer.now.size)) in
    told_by_object (request_of c.args.settings.now) script labels n w a o line words found account c.args.answer.now.size c.in-Json.is refl (subst A c.style-style.ensures c.in_ok-account.ensures) (subst W c.style-style.ensures c.in_ok-text.ensures) c.requires.size
    (subst F c.as_str.ensures.value c.in_ok-object_line-in-Json.ensures)

pub drop-account-requires-room-T-Destruct : goal.drop-account-requires-room-T-Destruct
drop-account-requires-room-T-Destruct g c κs within = elim g.met.A.AllocHandle.small [ inl e ↦ rw (e.0, e.1) (search (lit≤, lit<)) | inr e ↦ rw (e.0, e.1) (search (lit≤, lit<)) ]

pub array_drop-account-requires : goal.array_drop-account-requires
array_drop-account-requires g c = elim g.met.A.AllocHandle.small [ inl e ↦ rw (e.0, e.1) (lit< tt) | inr e ↦ rw (e.0, e.1) (lit< tt) ]

pub drop-requires-in_err-text-2-room-T-Destruct : goal.drop-requires-in_err-text-2-room-T-Destruct
drop-requires-in_err-text-2-room-T-Destruct g c κs within = elim g.met.A.AllocHandle.small [ inl e ↦ rw (e.0, e.1) (search (lit≤, lit<)) | inr e ↦ rw (e.0, e.1) (search (lit≤, lit<)) ]

pub drop-account-requires-in_err-text-2-room-T-Destruct : goal.drop-account-requires-in_err-text-2-room-T-Destruct
drop-account-requires-in_err-text-2-room-T-Destruct g c κs within = elim g.met.A.AllocHandle.small [ inl e ↦ rw (e.0, e.1) (search (lit≤, lit<)) | inr e ↦ rw (e.0, e.1) (search (lit≤, lit<)) ]

pub drop-account-requires-in_err-text-4-room-T-Destruct : goal.drop-account-requires-in_err-text-4-room-T-Destruct
drop-account-requires-in_err-text-4-room-T-Destruct g c κs within = elim g.met.A.AllocHandle.small [ inl e ↦ rw (e.0, e.1) (search (lit≤, lit<)) | inr e ↦ rw (e.0, e.1) (search (lit≤, lit<)) ]

pub drop-account-requires-in_err-text-5-room-T-Destruct : goal.drop-account-requires-in_err-text-5-room-T-Destruct
drop-account-requires-in_err-text-5-room-T-Destruct g c κs within = elim g.met.A.AllocHandle.small [ inl e ↦ rw (e.0, e.1) (search (lit≤, lit<)) | inr e ↦ rw (e.0, e.1) (search (lit≤, lit<)) ]

pub drop-account-requires-in_err-text-7-room-T-Destruct : goal.drop-account-requires-in_err-text-7-room-T-Destruct
drop-account-requires-in_err-text-7-room-T-Destruct g c κs within = elim g.met.A.AllocHandle.small [ inl e ↦ rw (e.0, e.1) (search (lit≤, lit<)) | inr e ↦ rw (e.0, e.1) (search (lit≤, lit<)) ]

pub drop-account-requires-in_err-text-9-room-T-Destruct : goal.drop-account-requires-in_err-text-9-room-T-Destruct
drop-account-requires-in_err-text-9-room-T-Destruct g c κs within = elim g.met.A.AllocHandle.small [ inl e ↦ rw (e.0, e.1) (search (lit≤, lit<)) | inr e ↦ rw (e.0, e.1) (search (lit≤, lit<)) ]

pub drop-account-requires-in_err-text-2-3-room-T-Destruct : goal.drop-account-requires-in_err-text-2-3-room-T-Destruct
drop-account-requires-in_err-text-2-3-room-T-Destruct g c κs within = elim g.met.A.AllocHandle.small [ inl e ↦ rw (e.0, e.1) (search (lit≤, lit<)) | inr e ↦ rw (e.0, e.1) (search (lit≤, lit<)) ]

pub drop-requires-in_err-text-3-room-T-Destruct : goal.drop-requires-in_err-text-3-room-T-Destruct
drop-requires-in_err-text-3-room-T-Destruct g c κs within = elim g.met.A.AllocHandle.small [ inl e ↦ rw (e.0, e.1) (search (lit≤, lit<)) | inr e ↦ rw (e.0, e.1) (search (lit≤, lit<)) ]

pub drop-requires-in_err-text-3-3-room-T-Destruct : goal.drop-requires-in_err-text-3-3-room-T-Destruct
drop-requires-in_err-text-3-3-room-T-Destruct g c κs within = elim g.met.A.AllocHandle.small [ inl e ↦ rw (e.0, e.1) (search (lit≤, lit<)) | inr e ↦ rw (e.0, e.1) (search (lit≤, lit<)) ]

pub drop-account-requires-in-Text-room-T-Destruct : goal.drop-account-requires-in-Text-room-T-Destruct
drop-account-requires-in-Text-room-T-Destruct g c κs within = elim g.met.A.AllocHandle.small [ inl e ↦ rw (e.0, e.1) (search (lit≤, lit<)) | inr e ↦ rw (e.0, e.1) (search (lit≤, lit<)) ]

pub array_drop-account-requires-in-Text : goal.array_drop-account-requires-in-Text
array_drop-account-requires-in-Text g c = elim g.met.A.AllocHandle.small [ inl e ↦ rw (e.0, e.1) (lit< tt) | inr e ↦ rw (e.0, e.1) (lit< tt) ]

pub drop-requires-in-Text-2-room-T-Destruct : goal.drop-requires-in-Text-2-room-T-Destruct
drop-requires-in-Text-2-room-T-Destruct g c κs within = elim g.met.A.AllocHandle.small [ inl e ↦ rw (e.0, e.1) (search (lit≤, lit<)) | inr e ↦ rw (e.0, e.1) (search (lit≤, lit<)) ]

pub drop-account-requires-in-Text-3-room-T-Destruct : goal.drop-account-requires-in-Text-3-room-T-Destruct
drop-account-requires-in-Text-3-room-T-Destruct g c κs within = elim g.met.A.AllocHandle.small [ inl e ↦ rw (e.0, e.1) (search (lit≤, lit<)) | inr e ↦ rw (e.0, e.1) (search (lit≤, lit<)) ]

pub drop-account-requires-in-Text-5-room-T-Destruct : goal.drop-account-requires-in-Text-5-room-T-Destruct
drop-account-requires-in-Text-5-room-T-Destruct g c κs within = elim g.met.A.AllocHandle.small [ inl e ↦ rw (e.0, e.1) (search (lit≤, lit<)) | inr e ↦ rw (e.0, e.1) (search (lit≤, lit<)) ]

pub drop-account-requires-in-Text-6-room-T-Destruct : goal.drop-account-requires-in-Text-6-room-T-Destruct
drop-account-requires-in-Text-6-room-T-Destruct g c κs within = elim g.met.A.AllocHandle.small [ inl e ↦ rw (e.0, e.1) (search (lit≤, lit<)) | inr e ↦ rw (e.0, e.1) (search (lit≤, lit<)) ]

pub drop-account-requires-in-Text-8-room-T-Destruct : goal.drop-account-requires-in-Text-8-room-T-Destruct
drop-account-requires-in-Text-8-room-T-Destruct g c κs within = elim g.met.A.AllocHandle.small [ inl e ↦ rw (e.0, e.1) (search (lit≤, lit<)) | inr e ↦ rw (e.0, e.1) (search (lit≤, lit<)) ]

pub drop-account-requires-in-Text-10-room-T-Destruct : goal.drop-account-requires-in-Text-10-room-T-Destruct
drop-account-requires-in-Text-10-room-T-Destruct g c κs within = elim g.met.A.AllocHandle.small [ inl e ↦ rw (e.0, e.1) (search (lit≤, lit<)) | inr e ↦ rw (e.0, e.1) (search (lit≤, lit<)) ]

pub drop-account-requires-in-Text-2-3-room-T-Destruct : goal.drop-account-requires-in-Text-2-3-room-T-Destruct
drop-account-requires-in-Text-2-3-room-T-Destruct g c κs within = elim g.met.A.AllocHandle.small [ inl e ↦ rw (e.0, e.1) (search (lit≤, lit<)) | inr e ↦ rw (e.0, e.1) (search (lit≤, lit<)) ]

pub drop-requires-in-Text-3-room-T-Destruct : goal.drop-requires-in-Text-3-room-T-Destruct
drop-requires-in-Text-3-room-T-Destruct g c κs within = elim g.met.A.AllocHandle.small [ inl e ↦ rw (e.0, e.1) (search (lit≤, lit<)) | inr e ↦ rw (e.0, e.1) (search (lit≤, lit<)) ]

pub drop-requires-in-Text-3-3-room-T-Destruct : goal.drop-requires-in-Text-3-3-room-T-Destruct
drop-requires-in-Text-3-3-room-T-Destruct g c κs within = elim g.met.A.AllocHandle.small [ inl e ↦ rw (e.0, e.1) (search (lit≤, lit<)) | inr e ↦ rw (e.0, e.1) (search (lit≤, lit<)) ]

pub drop-account-requires-in_err-object_line-in-Json-room-T-Destruct : goal.drop-account-requires-in_err-object_line-in-Json-room-T-Destruct
drop-account-requires-in_err-object_line-in-Json-room-T-Destruct g c κs within = elim g.met.A.AllocHandle.small [ inl e ↦ rw (e.0, e.1) (search (lit≤, lit<)) | inr e ↦ rw (e.0, e.1) (search (lit≤, lit<)) ]

pub array_drop-account-requires-in_err-object_line-in-Json : goal.array_drop-account-requires-in_err-object_line-in-Json
array_drop-account-requires-in_err-object_line-in-Json g c = elim g.met.A.AllocHandle.small [ inl e ↦ rw (e.0, e.1) (lit< tt) | inr e ↦ rw (e.0, e.1) (lit< tt) ]

pub drop-requires-in_err-object_line-in-Json-2-room-T-Destruct : goal.drop-requires-in_err-object_line-in-Json-2-room-T-Destruct
drop-requires-in_err-object_line-in-Json-2-room-T-Destruct g c κs within = elim g.met.A.AllocHandle.small [ inl e ↦ rw (e.0, e.1) (search (lit≤, lit<)) | inr e ↦ rw (e.0, e.1) (search (lit≤, lit<)) ]

pub drop-account-requires-in_err-object_line-in-Json-3-room-T-Destruct : goal.drop-account-requires-in_err-object_line-in-Json-3-room-T-Destruct
drop-account-requires-in_err-object_line-in-Json-3-room-T-Destruct g c κs within = elim g.met.A.AllocHandle.small [ inl e ↦ rw (e.0, e.1) (search (lit≤, lit<)) | inr e ↦ rw (e.0, e.1) (search (lit≤, lit<)) ]

pub drop-account-requires-in_err-object_line-in-Json-5-room-T-Destruct : goal.drop-account-requires-in_err-object_line-in-Json-5-room-T-Destruct
drop-account-requires-in_err-object_line-in-Json-5-room-T-Destruct g c κs within = elim g.met.A.AllocHandle.small [ inl e ↦ rw (e.0, e.1) (search (lit≤, lit<)) | inr e ↦ rw (e.0, e.1) (search (lit≤, lit<)) ]

pub drop-account-requires-in_err-object_line-in-Json-6-room-T-Destruct : goal.drop-account-requires-in_err-object_line-in-Json-6-room-T-Destruct
drop-account-requires-in_err-object_line-in-Json-6-room-T-Destruct g c κs within = elim g.met.A.AllocHandle.small [ inl e ↦ rw (e.0, e.1) (search (lit≤, lit<)) | inr e ↦ rw (e.0, e.1) (search (lit≤, lit<)) ]

pub drop-account-requires-in_err-object_line-in-Json-8-room-T-Destruct : goal.drop-account-requires-in_err-object_line-in-Json-8-room-T-Destruct
drop-account-requires-in_err-object_line-in-Json-8-room-T-Destruct g c κs within = elim g.met.A.AllocHandle.small [ inl e ↦ rw (e.0, e.1) (search (lit≤, lit<)) | inr e ↦ rw (e.0, e.1) (search (lit≤, lit<)) ]

pub drop-account-requires-in_err-object_line-in-Json-10-room-T-Destruct : goal.drop-account-requires-in_err-object_line-in-Json-10-room-T-Destruct
drop-account-requires-in_err-object_line-in-Json-10-room-T-Destruct g c κs within = elim g.met.A.AllocHandle.small [ inl e ↦ rw (e.0, e.1) (search (lit≤, lit<)) | inr e ↦ rw (e.0, e.1) (search (lit≤, lit<)) ]

pub drop-account-requires-in_err-object_line-in-Json-2-3-room-T-Destruct : goal.drop-account-requires-in_err-object_line-in-Json-2-3-room-T-Destruct
drop-account-requires-in_err-object_line-in-Json-2-3-room-T-Destruct g c κs within = elim g.met.A.AllocHandle.small [ inl e ↦ rw (e.0, e.1) (search (lit≤, lit<)) | inr e ↦ rw (e.0, e.1) (search (lit≤, lit<)) ]

pub drop-requires-in_err-object_line-in-Json-3-room-T-Destruct : goal.drop-requires-in_err-object_line-in-Json-3-room-T-Destruct
drop-requires-in_err-object_line-in-Json-3-room-T-Destruct g c κs within = elim g.met.A.AllocHandle.small [ inl e ↦ rw (e.0, e.1) (search (lit≤, lit<)) | inr e ↦ rw (e.0, e.1) (search (lit≤, lit<)) ]

pub drop-requires-in_err-object_line-in-Json-3-3-room-T-Destruct : goal.drop-requires-in_err-object_line-in-Json-3-3-room-T-Destruct
drop-requires-in_err-object_line-in-Json-3-3-room-T-Destruct g c κs within = elim g.met.A.AllocHandle.small [ inl e ↦ rw (e.0, e.1) (search (lit≤, lit<)) | inr e ↦ rw (e.0, e.1) (search (lit≤, lit<)) ]

pub drop-account-requires-in_ok-object_line-in-Json-room-T-Destruct : goal.drop-account-requires-in_ok-object_line-in-Json-room-T-Destruct
drop-account-requires-in_ok-object_line-in-Json-room-T-Destruct g c κs within = elim g.met.A.AllocHandle.small [ inl e ↦ rw (e.0, e.1) (search (lit≤, lit<)) | inr e ↦ rw (e.0, e.1) (search (lit≤, lit<)) ]

pub array_drop-account-requires-2 : goal.array_drop-account-requires-2
array_drop-account-requires-2 g c = elim g.met.A.AllocHandle.small [ inl e ↦ rw (e.0, e.1) (lit< tt) | inr e ↦ rw (e.0, e.1) (lit< tt) ]

pub drop-requires-in_ok-object_line-in-Json-2-room-T-Destruct : goal.drop-requires-in_ok-object_line-in-Json-2-room-T-Destruct
drop-requires-in_ok-object_line-in-Json-2-room-T-Destruct g c κs within = elim g.met.A.AllocHandle.small [ inl e ↦ rw (e.0, e.1) (search (lit≤, lit<)) | inr e ↦ rw (e.0, e.1) (search (lit≤, lit<)) ]

pub drop-account-requires-in_ok-object_line-in-Json-3-room-T-Destruct : goal.drop-account-requires-in_ok-object_line-in-Json-3-room-T-Destruct
drop-account-requires-in_ok-object_line-in-Json-3-room-T-Destruct g c κs within = elim g.met.A.AllocHandle.small [ inl e ↦ rw (e.0, e.1) (search (lit≤, lit<)) | inr e ↦ rw (e.0, e.1) (search (lit≤, lit<)) ]

pub drop-account-requires-in_ok-object_line-in-Json-5-room-T-Destruct : goal.drop-account-requires-in_ok-object_line-in-Json-5-room-T-Destruct
drop-account-requires-in_ok-object_line-in-Json-5-room-T-Destruct g c κs within = elim g.met.A.AllocHandle.small [ inl e ↦ rw (e.0, e.1) (search (lit≤, lit<)) | inr e ↦ rw (e.0, e.1) (search (lit≤, lit<)) ]

pub drop-account-requires-in_ok-object_line-in-Json-6-room-T-Destruct : goal.drop-account-requires-in_ok-object_line-in-Json-6-room-T-Destruct
drop-account-requires-in_ok-object_line-in-Json-6-room-T-Destruct g c κs within = elim g.met.A.AllocHandle.small [ inl e ↦ rw (e.0, e.1) (search (lit≤, lit<)) | inr e ↦ rw (e.0, e.1) (search (lit≤, lit<)) ]

pub drop-account-requires-in_ok-object_line-in-Json-8-room-T-Destruct : goal.drop-account-requires-in_ok-object_line-in-Json-8-room-T-Destruct
drop-account-requires-in_ok-object_line-in-Json-8-room-T-Destruct g c κs within = elim g.met.A.AllocHandle.small [ inl e ↦ rw (e.0, e.1) (search (lit≤, lit<)) | inr e ↦ rw (e.0, e.1) (search (lit≤, lit<)) ]

pub drop-account-requires-in_ok-object_line-in-Json-10-room-T-Destruct : goal.drop-account-requires-in_ok-object_line-in-Json-10-room-T-Destruct
drop-account-requires-in_ok-object_line-in-Json-10-room-T-Destruct g c κs within = elim g.met.A.AllocHandle.small [ inl e ↦ rw (e.0, e.1) (search (lit≤, lit<)) | inr e ↦ rw (e.0, e.1) (search (lit≤, lit<)) ]

pub drop-account-requires-in_ok-object_line-in-Json-2-3-room-T-Destruct : goal.drop-account-requires-in_ok-object_line-in-Json-2-3-room-T-Destruct
drop-account-requires-in_ok-object_line-in-Json-2-3-room-T-Destruct g c κs within = elim g.met.A.AllocHandle.small [ inl e ↦ rw (e.0, e.1) (search (lit≤, lit<)) | inr e ↦ rw (e.0, e.1) (search (lit≤, lit<)) ]

pub drop-requires-in_ok-object_line-in-Json-3-room-T-Destruct : goal.drop-requires-in_ok-object_line-in-Json-3-room-T-Destruct
drop-requires-in_ok-object_line-in-Json-3-room-T-Destruct g c κs within = elim g.met.A.AllocHandle.small [ inl e ↦ rw (e.0, e.1) (search (lit≤, lit<)) | inr e ↦ rw (e.0, e.1) (search (lit≤, lit<)) ]

pub drop-requires-in_ok-object_line-in-Json-3-3-room-T-Destruct : goal.drop-requires-in_ok-object_line-in-Json-3-3-room-T-Destruct
drop-requires-in_ok-object_line-in-Json-3-3-room-T-Destruct g c κs within = elim g.met.A.AllocHandle.small [ inl e ↦ rw (e.0, e.1) (search (lit≤, lit<)) | inr e ↦ rw (e.0, e.1) (search (lit≤, lit<)) ]
