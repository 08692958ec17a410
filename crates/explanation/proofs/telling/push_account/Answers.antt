-- The text of each account.
use Rattle.std.proofs.Common.{◌≡◌, ◌++◌, OnOk, append-nil, sym, subst, inl, inr, lit<, lit≤}
use Rattle.std.specs.String.{string_bytes}
use Rattle.theory_explanation.specs.Accounts.{account_text}
use Rattle.csp_term.specs.Script.{script_of}
use Rattle.counterexample.specs.Counterexample.{GoesRound}
use Rattle.counterexample.specs.Styles.{style_of}
use Rattle.explanation.specs.Accounts.{ComesRound, account_of}
use Rattle.explanation.specs.declared.account.Account.{Account}
use Rattle.explanation.proofs.telling.push_account.Goals as goal

pub push_counterexample-requires : goal.push_counterexample-requires
push_counterexample-requires g c =
    let R : Account g.row.A.Denot → Type 0 = λ a. ComesRound a in
    let round : GoesRound c.in-Shown.counterexample.looping = subst R c.in-Shown.is c.requires.round in
    elim g.met.A.AllocHandle.small [ inl e ↦ rw (e.0, e.1) (search (lit≤, round)) | inr e ↦ rw (e.0, e.1) (search (lit≤, round)) ]

pub returns-in-Bare : goal.returns-in-Bare
returns-in-Bare g c =
    let start = string_bytes c.args.text.now in
    let T : Account g.row.A.Denot → Type 0 = λ a. start ≡ start ++ account_text (style_of c.args.style.now) (script_of c.args.script.now) (account_of a) in
    subst T (sym c.in-Bare.is) (sym (append-nil start))

pub returns-in-WideEnd : goal.returns-in-WideEnd
returns-in-WideEnd g c =
    let r = c.push_sentence.result in
    let T : Account g.row.A.Denot → Type 0 = λ a. OnOk r (string_bytes c.push_sentence.new.text ≡ string_bytes c.args.text.now ++ account_text (style_of c.args.style.now) (script_of c.args.script.now) (account_of a)) in
    subst T (sym c.in-WideEnd.is) c.push_sentence.ensures

pub returns-in-Shown : goal.returns-in-Shown
returns-in-Shown g c =
    let r = c.push_counterexample.result in
    let T : Account g.row.A.Denot → Type 0 = λ a. OnOk r (string_bytes c.push_counterexample.new.text ≡ string_bytes c.args.text.now ++ account_text (style_of c.args.style.now) (script_of c.args.script.now) (account_of a)) in
    subst T (sym c.in-Shown.is) c.push_counterexample.ensures

pub returns-in-Stuck : goal.returns-in-Stuck
returns-in-Stuck g c =
    let r = c.push_found.result in
    let T : Account g.row.A.Denot → Type 0 = λ a. OnOk r (string_bytes c.push_found.new.text ≡ string_bytes c.args.text.now ++ account_text (style_of c.args.style.now) (script_of c.args.script.now) (account_of a)) in
    subst T (sym c.in-Stuck.is) c.push_found.ensures
