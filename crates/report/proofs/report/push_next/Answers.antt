use Rattle.std.proofs.lemmas.Result.{on_ok_weaker, on_err_weaker}
use Rattle.theory_search.specs.Printing.{action_text}
use Rattle.csp_value.specs.Action.{action_of}
use Rattle.csp_term.specs.Script.{script_of}
use Rattle.report.proofs.Sending.{both, later, sooner, on_error}
use Rattle.report.proofs.report.push_next.Goals as goal

pub returns-clause-whole : goal.returns-clause-whole
returns-clause-whole g c = on_ok_weaker c.push_action.result (λ last. both c.in_ok-push_all.ensures.whole last) c.push_action.ensures.whole

pub returns-clause-beginning : goal.returns-clause-beginning
returns-clause-beginning g c = on_err_weaker c.push_action.result (λ last. later c.in_ok-push_all.ensures.whole last) c.push_action.ensures.beginning

pub returns-in_err-push_all-clause-beginning : goal.returns-in_err-push_all-clause-beginning
returns-in_err-push_all-clause-beginning g c =
    on_error c.from_residual.result (sooner (action_text (script_of c.args.script.now) (action_of c.args.action.now)) c.in_err-push_all.ensures.beginning)
