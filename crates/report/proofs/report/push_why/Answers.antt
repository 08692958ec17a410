use Rattle.std.proofs.Common.{List, ℕ, ap, sym, subst, ◌∙◌, ◌≡◌, ◌++◌}
use Rattle.std.proofs.lemmas.Result.{on_err_weaker}
use Rattle.std.specs.Prelude.{codes}
use Rattle.theory_search.specs.Printing.{why_text}
use Rattle.theory_semantics.specs.Meaning.Causes.{cause_word}
use Rattle.csp_expression.specs.Fault.{cause_of}
use Rattle.verdict.specs.Outcome.{why_of}
use Rattle.report.specs.Sending.{Breaks}
use Rattle.report.proofs.Sending.{later, sooner, on_error}
use Rattle.report.proofs.report.push_why.Goals as goal

pub returns-in_err-push_all-in-Fault-clause-beginning : goal.returns-in_err-push_all-in-Fault-clause-beginning
returns-in_err-push_all-in-Fault-clause-beginning g c =
    let P : List ℕ → Type 0 = λ text. Breaks (g.S.Sink.taken c.args.sink.now) (g.S.Sink.taken c.push_all-in-Fault.new.sink) (g.S.Sink.has_failed c.push_all-in-Fault.new.sink) text in
    let is : codes "fault " ++ cause_word (cause_of c.in-Fault.fault) ≡ why_text (why_of c.args.why) = ap (λ w. why_text (why_of w)) (sym c.in-Fault.is) in
    on_error c.from_residual.result (subst P is (sooner (cause_word (cause_of c.in-Fault.fault)) c.in_err-push_all-in-Fault.ensures.beginning))

pub returns-in_ok-push_all-in-Fault-clause-beginning : goal.returns-in_ok-push_all-in-Fault-clause-beginning
returns-in_ok-push_all-in-Fault-clause-beginning g c =
    let P : List ℕ → Type 0 = λ text. Breaks (g.S.Sink.taken c.args.sink.now) (g.S.Sink.taken c.push_all-in-Fault-2.new.sink) (g.S.Sink.has_failed c.push_all-in-Fault-2.new.sink) text in
    let word : c.as_bytes.result.now ≡ cause_word (cause_of c.in-Fault.fault) = c.as_bytes.ensures.value ∙ c.word.ensures in
    let is : codes "fault " ++ c.as_bytes.result.now ≡ why_text (why_of c.args.why) = ap (λ text. codes "fault " ++ text) word ∙ ap (λ w. why_text (why_of w)) (sym c.in-Fault.is) in
    on_err_weaker c.push_all-in-Fault-2.result (λ last. subst P is (later c.in_ok-push_all-in-Fault.ensures.whole last)) c.push_all-in-Fault-2.ensures.beginning
