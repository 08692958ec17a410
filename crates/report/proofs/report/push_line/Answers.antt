-- The number, the outcome and the end of the line go out one after the other.
use Rattle.std.specs.Prelude.{codes, ◌++◌}
use Rattle.theory_search.specs.Printing.{outcome_text}
use Rattle.csp_term.specs.Script.{script_of}
use Rattle.verdict.specs.Outcome.{outcome_of}
use Rattle.std.proofs.lemmas.Result.{on_ok_weaker, on_err_weaker}
use Rattle.report.proofs.Sending.{both, later, sooner, on_error}
use Rattle.report.proofs.report.push_line.Goals as goal

pub returns-clause-whole : goal.returns-clause-whole
returns-clause-whole g c =
    on_ok_weaker c.push_all-2.result (λ last. both c.in_ok-push_number.ensures.whole (both c.in_ok-push_all.ensures.whole (both c.in_ok-push_outcome.ensures.whole last))) c.push_all-2.ensures.whole

pub returns-clause-beginning : goal.returns-clause-beginning
returns-clause-beginning g c =
    on_err_weaker c.push_all-2.result (λ last. later c.in_ok-push_number.ensures.whole (later c.in_ok-push_all.ensures.whole (later c.in_ok-push_outcome.ensures.whole last))) c.push_all-2.ensures.beginning

pub returns-in_err-push_number-clause-beginning : goal.returns-in_err-push_number-clause-beginning
returns-in_err-push_number-clause-beginning g c =
    let text = outcome_text (script_of c.args.script.now) (outcome_of c.args.outcome.now) in
    on_error c.from_residual.result (sooner (codes " " ++ (text ++ codes "\n")) c.in_err-push_number.ensures.beginning)

pub returns-in_err-push_all-clause-beginning : goal.returns-in_err-push_all-clause-beginning
returns-in_err-push_all-clause-beginning g c =
    let text = outcome_text (script_of c.args.script.now) (outcome_of c.args.outcome.now) in
    on_error c.from_residual-in_err-push_all.result (later c.in_ok-push_number.ensures.whole (sooner (text ++ codes "\n") c.in_err-push_all.ensures.beginning))

pub returns-in_err-push_outcome-clause-beginning : goal.returns-in_err-push_outcome-clause-beginning
returns-in_err-push_outcome-clause-beginning g c =
    on_error c.from_residual-in_err-push_outcome.result (later c.in_ok-push_number.ensures.whole (later c.in_ok-push_all.ensures.whole (sooner (codes "\n") c.in_err-push_outcome.ensures.beginning)))
