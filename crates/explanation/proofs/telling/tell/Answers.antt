-- Behind the headline stand the opening and the account.
use Rattle.std.proofs.Common.{◌≡◌, ◌++◌, ℕ, List, ◌∙◌, ap, append_assoc, inl, inr, lit<, lit≤}
use Rattle.std.specs.String.{string_bytes}
use Rattle.theory_search.specs.Answer.{as_written}
use Rattle.theory_explanation.specs.Accounts.{account_text, opening_text}
use Rattle.theory_explanation.specs.Headline.{headline}
use Rattle.csp_term.specs.Script.{assertion_of, script_of}
use Rattle.csp_print.specs.Names.{names_of}
use Rattle.verdict.specs.Outcome.{outcome_of}
use Rattle.counterexample.specs.Styles.{style_of}
use Rattle.explanation.specs.Accounts.{account_of}
use Rattle.explanation.proofs.Rounds.{comes_round}
use Rattle.explanation.proofs.telling.tell.Goals as goal

pub push_account-requires : goal.push_account-requires
push_account-requires g c =
    let round = comes_round g.row.A.Denot (style_of c.args.style.now) (script_of c.args.script.now) (assertion_of c.args.question.now.written.now) (assertion_of c.args.question.now.asked.now) (outcome_of c.args.found.now) c.args.account.now c.requires in
    elim g.met.A.AllocHandle.small [ inl e ↦ rw (e.0, e.1) (search (lit≤, lit<, round)) | inr e ↦ rw (e.0, e.1) (search (lit≤, lit<, round)) ]

pub returns : goal.returns
returns g c =
    let style = style_of c.args.style.now in
    let found = outcome_of c.args.found.now in
    let head = headline style.names c.args.question.now.number (assertion_of c.args.question.now.written.now) (as_written c.args.question.now.written.now.negated found) in
    let opening = opening_text c.args.question.now.asked.now.negated found in
    let account = account_text style (script_of c.args.script.now) (account_of c.args.account.now) in
    let mid : string_bytes c.push_mark.new.text ≡ head ++ opening = c.in_ok-push_mark.ensures ∙ ap (λ ts. ts ++ c.opening.result.now) c.in_ok-text.ensures ∙ ap (λ (ts : List ℕ). head ++ ts) c.opening.ensures in
    c.in_ok-push_account.ensures ∙ ap (λ ts. ts ++ account) mid ∙ append_assoc head opening account
