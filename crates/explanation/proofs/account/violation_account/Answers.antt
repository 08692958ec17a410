-- A run of the script as it is written is told, or one as names are read.
use Rattle.std.proofs.Common.{Option, IfSome, inl, inr, subst, lit<, lit≤}
use Rattle.theory_explanation.specs.Telling.{TellsReplay, TellsViolation}
use Rattle.csp_term.specs.Script.{assertion_of, script_of}
use Rattle.verdict.specs.Outcome.{violation_of}
use Rattle.counterexample.specs.Spreading.{IsSpread}
use Rattle.counterexample.specs.Styles.{style_of}
use Rattle.counterexample.specs.declared.spreading.Spread.{Spread}
use Rattle.explanation.specs.Accounts.{account_of}
use Rattle.explanation.proofs.OnOks.{if_ok_so}
use Rattle.explanation.proofs.account.violation_account.Goals as goal

pub spread_counterexample_of-requires : goal.spread_counterexample_of-requires
spread_counterexample_of-requires g c =
    elim g.met.A.AllocHandle.small [
      | inl e ↦ rw (e.0, e.1) (lit< tt, (lit< tt, (c.requires.terms, c.requires.written.implementation)))
      | inr e ↦ rw (e.0, e.1) (lit< tt, (lit< tt, (c.requires.terms, c.requires.written.implementation)))
    ]

pub returns-in-Some : goal.returns-in-Some
returns-in-Some g c =
    let script = script_of c.args.script.now in
    let w = assertion_of c.args.question.now.written.now in
    let a = assertion_of c.args.question.now.asked.now in
    let v = violation_of c.args.shown.now in
    let T : Option (Spread g.row.A.Denot) → Type 0 = λ found. IfSome found (IsSpread script w.implementation a v c.args.style.now.most) in
    let is = subst T c.in-Some.is c.in_ok-found.ensures in
    inl (is.like, is.told)

pub replay_account-requires : goal.replay_account-requires
replay_account-requires g c =
    let terms = c.requires.terms in
    let run = c.requires.run in
    elim g.met.A.AllocHandle.small [ inl e ↦ rw (e.0, e.1) (search (lit≤, lit<, terms, run)) | inr e ↦ rw (e.0, e.1) (search (lit≤, lit<, terms, run)) ]

pub returns-in-None : goal.returns-in-None
returns-in-None g c =
    let script = script_of c.args.script.now in
    let w = assertion_of c.args.question.now.written.now in
    let a = assertion_of c.args.question.now.asked.now in
    let v = violation_of c.args.shown.now in
    let style = style_of c.args.style.now in
    if_ok_so c.replay_account.result (λ account. TellsReplay style script a v (account_of account)) (λ account. TellsViolation style script w a v (account_of account)) (λ account told. inr told) c.replay_account.ensures
