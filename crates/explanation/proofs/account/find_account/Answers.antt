-- An account by the outcome.
use Rattle.std.proofs.Common.{IfOk, sym, subst, refl, inl, inr, lit<, lit≤}
use Rattle.theory_semantics.specs.Meaning.Violations.{IsViolation}
use Rattle.theory_runs.proofs.Visiting.{has_end}
use Rattle.theory_explanation.specs.Telling.{IsAccount, TellsViolation}
use Rattle.csp_term.specs.Script.{assertion_of, script_of}
use Rattle.verdict.specs.declared.outcome.Outcome.{Outcome}
use Rattle.verdict.specs.Outcome.{outcome_of, violation_of}
use Rattle.counterexample.specs.Styles.{style_of}
use Rattle.explanation.specs.Accounts.{account_of}
use Rattle.explanation.specs.Running.{HasViolation}
use Rattle.explanation.specs.declared.account.Account.{Account}
use Rattle.explanation.specs.declared.account.Account.TheVariants as variant
use Rattle.explanation.proofs.OnOks.{if_ok_so}
use Rattle.explanation.proofs.account.find_account.Goals as goal

pub returns-in-Holds : goal.returns-in-Holds
returns-in-Holds g c =
    let bare : Account g.row.A.Denot = variant.Bare in
    let T : Outcome g.row.A.Denot → Type 0 = λ o. IsAccount (style_of c.args.style.now) (script_of c.args.script.now) (assertion_of c.args.question.now.written.now) (assertion_of c.args.question.now.asked.now) (outcome_of o) (account_of bare) in
    subst T (sym c.in-Holds.is) refl

pub violation_account-requires : goal.violation_account-requires
violation_account-requires g c =
    let script = script_of c.args.script.now in
    let a = assertion_of c.args.question.now.asked.now in
    let V : Outcome g.row.A.Denot → Type 0 = λ o. HasViolation script a (outcome_of o) in
    let violation : IsViolation script a (violation_of c.in-Fails.shown) = subst V c.in-Fails.is c.requires.shown in
    let run = has_end script a (violation_of c.in-Fails.shown) violation in
    let terms = c.requires.terms in
    let written = c.requires.written in
    elim g.met.A.AllocHandle.small [ inl e ↦ rw (e.0, e.1) (search (lit≤, lit<, terms, written, run)) | inr e ↦ rw (e.0, e.1) (search (lit≤, lit<, terms, written, run)) ]

pub returns-in-Fails : goal.returns-in-Fails
returns-in-Fails g c =
    let script = script_of c.args.script.now in
    let a = assertion_of c.args.question.now.asked.now in
    let written = assertion_of c.args.question.now.written.now in
    let style = style_of c.args.style.now in
    let v = violation_of c.in-Fails.shown in
    let V : Outcome g.row.A.Denot → Type 0 = λ o. HasViolation script a (outcome_of o) in
    let violation : IsViolation script a v = subst V c.in-Fails.is c.requires.shown in
    let T : Outcome g.row.A.Denot → Type 0 = λ o. IfOk c.violation_account.result (λ account. IsAccount style script written a (outcome_of o) (account_of account)) in
    subst T (sym c.in-Fails.is)
    (if_ok_so c.violation_account.result (λ account. TellsViolation style script written a v (account_of account)) (λ account. IsViolation script a v × TellsViolation style script written a v (account_of account)) (λ account told. (violation, told)) c.violation_account.ensures)

pub returns-in-Unknown : goal.returns-in-Unknown
returns-in-Unknown g c =
    let T : Outcome g.row.A.Denot → Type 0 = λ o. IfOk c.unknown_account.result (λ account. IsAccount (style_of c.args.style.now) (script_of c.args.script.now) (assertion_of c.args.question.now.written.now) (assertion_of c.args.question.now.asked.now) (outcome_of o) (account_of account)) in
    subst T (sym c.in-Unknown.is) c.unknown_account.ensures

pub returns-in-Denied : goal.returns-in-Denied
returns-in-Denied g c =
    let bare : Account g.row.A.Denot = variant.Bare in
    let T : Outcome g.row.A.Denot → Type 0 = λ o. IsAccount (style_of c.args.style.now) (script_of c.args.script.now) (assertion_of c.args.question.now.written.now) (assertion_of c.args.question.now.asked.now) (outcome_of o) (account_of bare) in
    subst T (sym c.in-Denied.is) refl
