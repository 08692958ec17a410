-- Where it is a state that is stuck, what is found of it.
use Rattle.std.proofs.Common.{◌≡◌, Option, Some, None, IfOk, option_map, refl, sym, ◌∙◌, ap, subst, inl, inr, lit<, lit≤}
use Rattle.theory_runs.specs.Stuck.{Hindrance}
use Rattle.csp_term.specs.Script.{assertion_of, script_of}
use Rattle.theory_explanation.specs.Accounts.{Bare}
use Rattle.theory_explanation.specs.Faults.{hindrance}
use Rattle.theory_explanation.specs.Telling.{TellsStuck}
use Rattle.counterexample.specs.Styles.{style_of}
use Rattle.csp_replay.specs.Hindrance.{hindrance_of}
use Rattle.verdict.specs.Outcome.{why_of}
use Rattle.explanation.specs.Accounts.{account_of}
use Rattle.explanation.specs.Running.{IsStop, stop_in}
use Rattle.explanation.proofs.account.unknown_account.Goals as goal

pub returns-in_default : goal.returns-in_default
returns-in_default g c =
    let which : None ≡ hindrance (why_of c.args.why) = sym (ap (option_map hindrance_of) c.in_default.is) ∙ c.hindrance-stuck_by.ensures in
    let T : Option Hindrance → Type 0 = λ o. TellsStuck (style_of c.args.style.now) (script_of c.args.script.now) (assertion_of c.args.question.now.written.now) (assertion_of c.args.question.now.asked.now) o Bare in
    subst T which refl

pub returns : goal.returns
returns g c =
    let which : Some (hindrance_of c.in-Some.hindrance) ≡ hindrance (why_of c.args.why) = sym (ap (option_map hindrance_of) c.in-Some.is) ∙ c.hindrance-stuck_by.ensures in
    let T : Option Hindrance → Type 0 = λ o. IfOk c.stuck_account.result (λ account. TellsStuck (style_of c.args.style.now) (script_of c.args.script.now) (assertion_of c.args.question.now.written.now) (assertion_of c.args.question.now.asked.now) o (account_of account)) in
    subst T which c.stuck_account.ensures

pub stuck_account-requires : goal.stuck_account-requires
stuck_account-requires g c =
    let script = script_of c.args.script.now in
    let a = assertion_of c.args.question.now.asked.now in
    let h = hindrance_of c.in-Some.hindrance in
    let which : Some h ≡ hindrance (why_of c.args.why) = sym (ap (option_map hindrance_of) c.in-Some.is) ∙ c.hindrance-stuck_by.ensures in
    let stop : IsStop script a h (stop_in c.args.stop) = c.requires.stop h (sym which) in
    elim g.met.A.AllocHandle.small [ inl e ↦ rw (e.0, e.1) (search (lit≤, lit<, stop)) | inr e ↦ rw (e.0, e.1) (search (lit≤, lit<, stop)) ]
