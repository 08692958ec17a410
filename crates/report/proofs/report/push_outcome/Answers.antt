-- The text is that of the outcome's kind.
use Rattle.std.proofs.Common.{List, ◌≡◌, ℕ, ◌++◌, map, ap, sym, subst, ◌∙◌, rules, inl, inr, lit<}
use Rattle.std.proofs.lemmas.Result.{on_ok_weaker, on_err_weaker}
use Rattle.std.specs.Prelude.{codes}
use Rattle.std.specs.Prelude.{false}
use Rattle.theory_search.specs.Outcome as pure
use Rattle.theory_search.specs.Printing.{outcome_text, why_text}
use Rattle.csp_term.specs.Script.{script_of}
use Rattle.verdict.specs.Outcome.{outcome_of, violation_of, why_of}
use Rattle.report.specs.Sending.{Sends, Breaks}
use Rattle.report.proofs.Sending.{both, later, sooner, on_error}
use Rattle.report.proofs.report.push_outcome.Goals as goal

pub returns-in-Fails-clause-whole : goal.returns-in-Fails-clause-whole
returns-in-Fails-clause-whole g c =
    let script = script_of c.args.script.now in
    let is : pure.Fails (violation_of c.in-Fails.shown) ≡ outcome_of c.args.outcome.now = sym (ap outcome_of c.in-Fails.is) in
    let P : pure.Outcome → Type 0 = λ x. Sends (g.S.Sink.taken c.args.sink.now) (g.S.Sink.taken c.push_violation.new.sink) (g.S.Sink.has_failed c.push_violation.new.sink) (outcome_text script x) in
    on_ok_weaker c.push_violation.result (λ all. subst P is all) c.push_violation.ensures.whole

pub returns-in-Fails-clause-beginning : goal.returns-in-Fails-clause-beginning
returns-in-Fails-clause-beginning g c =
    let script = script_of c.args.script.now in
    let is : pure.Fails (violation_of c.in-Fails.shown) ≡ outcome_of c.args.outcome.now = sym (ap outcome_of c.in-Fails.is) in
    let P : pure.Outcome → Type 0 = λ x. Breaks (g.S.Sink.taken c.args.sink.now) (g.S.Sink.taken c.push_violation.new.sink) (g.S.Sink.has_failed c.push_violation.new.sink) (outcome_text script x) in
    on_err_weaker c.push_violation.result (λ all. subst P is all) c.push_violation.ensures.beginning

pub returns-in_err-push_all-in-Unknown-clause-beginning : goal.returns-in_err-push_all-in-Unknown-clause-beginning
returns-in_err-push_all-in-Unknown-clause-beginning g c =
    let script = script_of c.args.script.now in
    let is : pure.Unknown (why_of c.in-Unknown.why) ≡ outcome_of c.args.outcome.now = sym (ap outcome_of c.in-Unknown.is) in
    let P : pure.Outcome → Type 0 = λ x. Breaks (g.S.Sink.taken c.args.sink.now) (g.S.Sink.taken c.push_all-in-Unknown.new.sink) (g.S.Sink.has_failed c.push_all-in-Unknown.new.sink) (outcome_text script x) in
    on_error c.from_residual.result (subst P is (sooner (why_text (why_of c.in-Unknown.why)) c.in_err-push_all-in-Unknown.ensures.beginning))

pub returns-in_ok-push_all-in-Unknown-clause-whole : goal.returns-in_ok-push_all-in-Unknown-clause-whole
returns-in_ok-push_all-in-Unknown-clause-whole g c =
    let script = script_of c.args.script.now in
    let is : pure.Unknown (why_of c.in-Unknown.why) ≡ outcome_of c.args.outcome.now = sym (ap outcome_of c.in-Unknown.is) in
    let P : pure.Outcome → Type 0 = λ x. Sends (g.S.Sink.taken c.args.sink.now) (g.S.Sink.taken c.push_why.new.sink) (g.S.Sink.has_failed c.push_why.new.sink) (outcome_text script x) in
    on_ok_weaker c.push_why.result (λ last. subst P is (both c.in_ok-push_all-in-Unknown.ensures.whole last)) c.push_why.ensures.whole

pub returns-in_ok-push_all-in-Unknown-clause-beginning : goal.returns-in_ok-push_all-in-Unknown-clause-beginning
returns-in_ok-push_all-in-Unknown-clause-beginning g c =
    let script = script_of c.args.script.now in
    let is : pure.Unknown (why_of c.in-Unknown.why) ≡ outcome_of c.args.outcome.now = sym (ap outcome_of c.in-Unknown.is) in
    let P : pure.Outcome → Type 0 = λ x. Breaks (g.S.Sink.taken c.args.sink.now) (g.S.Sink.taken c.push_why.new.sink) (g.S.Sink.has_failed c.push_why.new.sink) (outcome_text script x) in
    on_err_weaker c.push_why.result (λ last. subst P is (later c.in_ok-push_all-in-Unknown.ensures.whole last)) c.push_why.ensures.beginning

pub push_violation-requires : goal.push_violation-requires
push_violation-requires g c =
    let works : g.S.Sink.has_failed c.args.sink.now ≡ false = search rules in
    elim g.met.A.AllocHandle.small [
      | inl e ↦ rw (e.0, e.1) (lit< tt, works)
      | inr e ↦ rw (e.0, e.1) (lit< tt, works)
    ]
