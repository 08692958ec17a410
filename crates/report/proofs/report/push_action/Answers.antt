-- Tau has no text.
use Rattle.std.proofs.Common.{List, ℕ, ◌≡◌, ap, sym, subst, rules}
use Rattle.std.specs.Prelude.{false}
use Rattle.theory_search.specs.Printing.{action_text}
use Rattle.csp_value.specs.declared.action.Action.{Action}
use Rattle.csp_value.specs.Action.{action_of}
use Rattle.csp_term.specs.Script.{script_of}
use Rattle.report.specs.Sending.{Sends}
use Rattle.report.proofs.Sending.{appends_nothing}
use Rattle.report.proofs.report.push_action.Goals as goal

pub returns-in-Tau-clause-whole : goal.returns-in-Tau-clause-whole
returns-in-Tau-clause-whole g c =
    let old = g.S.Sink.taken c.args.sink.now in
    let failed = g.S.Sink.has_failed c.args.sink.now in
    let works : failed ≡ false = search rules in
    let P : List ℕ → Type 0 = λ text. Sends old old failed text in
    subst P (sym (ap (λ (x : Action g.row.A.Denot). action_text (script_of c.args.script.now) (action_of x)) c.in-Tau.is)) (record { bytes = appends_nothing old; works = works })
