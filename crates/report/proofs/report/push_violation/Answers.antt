-- The words, the trace and what is shown go out one after the other.
use Rattle.std.specs.Prelude.{codes, ◌++◌}
use Rattle.theory_semantics.specs.Meaning.Runs.{trace}
use Rattle.theory_search.specs.Printing.{actions_text, evidence_text}
use Rattle.csp_term.specs.Script.{script_of}
use Rattle.verdict.specs.Outcome.{violation_of}
use Rattle.std.proofs.lemmas.Result.{on_ok_weaker, on_err_weaker}
use Rattle.report.proofs.Sending.{both, later, sooner, on_error}
use Rattle.report.proofs.report.push_violation.Goals as goal

pub returns-clause-whole : goal.returns-clause-whole
returns-clause-whole g c =
    on_ok_weaker c.push_evidence.result (λ last. both c.in_ok-push_all.ensures.whole (both c.in_ok-push_trace.ensures.whole (both c.in_ok-push_all-2.ensures.whole last))) c.push_evidence.ensures.whole

pub returns-clause-beginning : goal.returns-clause-beginning
returns-clause-beginning g c =
    on_err_weaker c.push_evidence.result (λ last. later c.in_ok-push_all.ensures.whole (later c.in_ok-push_trace.ensures.whole (later c.in_ok-push_all-2.ensures.whole last))) c.push_evidence.ensures.beginning

pub returns-in_err-push_all-clause-beginning : goal.returns-in_err-push_all-clause-beginning
returns-in_err-push_all-clause-beginning g c =
    let violation = violation_of c.args.shown.now in
    let script = script_of c.args.script.now in
    on_error c.from_residual.result (sooner (actions_text script (trace violation.path) ++ (codes "> " ++ evidence_text script violation.evidence)) c.in_err-push_all.ensures.beginning)

pub returns-in_err-push_trace-clause-beginning : goal.returns-in_err-push_trace-clause-beginning
returns-in_err-push_trace-clause-beginning g c =
    let violation = violation_of c.args.shown.now in
    let script = script_of c.args.script.now in
    on_error c.from_residual-in_err-push_trace.result (later c.in_ok-push_all.ensures.whole (sooner (codes "> " ++ evidence_text script violation.evidence) c.in_err-push_trace.ensures.beginning))

pub returns-in_err-push_all-2-clause-beginning : goal.returns-in_err-push_all-2-clause-beginning
returns-in_err-push_all-2-clause-beginning g c =
    let violation = violation_of c.args.shown.now in
    let script = script_of c.args.script.now in
    on_error c.from_residual-in_err-push_all-2.result (later c.in_ok-push_all.ensures.whole (later c.in_ok-push_trace.ensures.whole (sooner (evidence_text script violation.evidence) c.in_err-push_all-2.ensures.beginning)))
