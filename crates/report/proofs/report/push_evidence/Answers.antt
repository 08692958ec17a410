-- What is shown goes out behind its word; offers stand between braces.
use Rattle.std.proofs.Common.{List, ◌≡◌, ℕ, ◌++◌, map, ap, sym, subst, ◌∙◌}
use Rattle.std.proofs.lemmas.Result.{on_ok_weaker, on_err_weaker}
use Rattle.std.specs.Prelude.{codes}
use Rattle.theory_semantics.specs.Meaning.Violations as pure
use Rattle.theory_search.specs.Printing.{action_text, actions_text, evidence_text}
use Rattle.csp_value.specs.declared.action.Action.{Action}
use Rattle.csp_value.specs.Action.{action_of}
use Rattle.csp_term.specs.Script.{script_of}
use Rattle.verdict.specs.Outcome.{evidence_of}
use Rattle.report.specs.Sending.{Sends, Breaks}
use Rattle.report.proofs.Sending.{both, later, sooner, on_error}
use Rattle.report.proofs.report.push_evidence.Goals as goal

pub returns-in_err-push_all-in-Event-clause-beginning : goal.returns-in_err-push_all-in-Event-clause-beginning
returns-in_err-push_all-in-Event-clause-beginning g c =
    let script = script_of c.args.script.now in
    let is : pure.ByEvent (action_of c.in-Event.action) ≡ evidence_of c.args.evidence.now = sym (ap evidence_of c.in-Event.is) in
    let P : pure.Evidence → Type 0 = λ x. Breaks (g.S.Sink.taken c.args.sink.now) (g.S.Sink.taken c.push_all.new.sink) (g.S.Sink.has_failed c.push_all.new.sink) (evidence_text script x) in
    on_error c.from_residual.result (subst P is (sooner (action_text script (action_of c.in-Event.action)) c.in_err-push_all-in-Event.ensures.beginning))

pub returns-in_ok-push_all-in-Event-clause-whole : goal.returns-in_ok-push_all-in-Event-clause-whole
returns-in_ok-push_all-in-Event-clause-whole g c =
    let script = script_of c.args.script.now in
    let is : pure.ByEvent (action_of c.in-Event.action) ≡ evidence_of c.args.evidence.now = sym (ap evidence_of c.in-Event.is) in
    let P : pure.Evidence → Type 0 = λ x. Sends (g.S.Sink.taken c.args.sink.now) (g.S.Sink.taken c.push_action.new.sink) (g.S.Sink.has_failed c.push_action.new.sink) (evidence_text script x) in
    on_ok_weaker c.push_action.result (λ last. subst P is (both c.in_ok-push_all-in-Event.ensures.whole last)) c.push_action.ensures.whole

pub returns-in_ok-push_all-in-Event-clause-beginning : goal.returns-in_ok-push_all-in-Event-clause-beginning
returns-in_ok-push_all-in-Event-clause-beginning g c =
    let script = script_of c.args.script.now in
    let is : pure.ByEvent (action_of c.in-Event.action) ≡ evidence_of c.args.evidence.now = sym (ap evidence_of c.in-Event.is) in
    let P : pure.Evidence → Type 0 = λ x. Breaks (g.S.Sink.taken c.args.sink.now) (g.S.Sink.taken c.push_action.new.sink) (g.S.Sink.has_failed c.push_action.new.sink) (evidence_text script x) in
    on_err_weaker c.push_action.result (λ last. subst P is (later c.in_ok-push_all-in-Event.ensures.whole last)) c.push_action.ensures.beginning

pub returns-in_err-push_all-in-Offers-clause-beginning : goal.returns-in_err-push_all-in-Offers-clause-beginning
returns-in_err-push_all-in-Offers-clause-beginning g c =
    let script = script_of c.args.script.now in
    let offers = map action_of c.in-Offers.offers.items in
    let is : pure.ByOffers offers ≡ evidence_of c.args.evidence.now = sym (ap evidence_of c.in-Offers.is) in
    let P : pure.Evidence → Type 0 = λ x. Breaks (g.S.Sink.taken c.args.sink.now) (g.S.Sink.taken c.push_all-in-Offers.new.sink) (g.S.Sink.has_failed c.push_all-in-Offers.new.sink) (evidence_text script x) in
    on_error c.from_residual-in_err-push_all-in-Offers.result (subst P is (sooner (actions_text script offers ++ codes "}") c.in_err-push_all-in-Offers.ensures.beginning))

pub returns-in_err-push_offers-in-Offers-clause-beginning : goal.returns-in_err-push_offers-in-Offers-clause-beginning
returns-in_err-push_offers-in-Offers-clause-beginning g c =
    let script = script_of c.args.script.now in
    let offers = map action_of c.deref.result.now in
    let is : pure.ByOffers offers ≡ evidence_of c.args.evidence.now = sym (ap evidence_of c.in-Offers.is ∙ ap (λ (xs : List (Action g.row.A.Denot)). pure.ByOffers (map action_of xs)) (sym c.deref.ensures.value)) in
    let P : pure.Evidence → Type 0 = λ x. Breaks (g.S.Sink.taken c.args.sink.now) (g.S.Sink.taken c.push_offers.new.sink) (g.S.Sink.has_failed c.push_offers.new.sink) (evidence_text script x) in
    on_error c.from_residual-in_err-push_offers-in-Offers.result (subst P is (later c.in_ok-push_all-in-Offers.ensures.whole (sooner (codes "}") c.in_err-push_offers-in-Offers.ensures.beginning)))

pub returns-in_ok-push_offers-in-Offers-clause-whole : goal.returns-in_ok-push_offers-in-Offers-clause-whole
returns-in_ok-push_offers-in-Offers-clause-whole g c =
    let script = script_of c.args.script.now in
    let offers = map action_of c.deref.result.now in
    let is : pure.ByOffers offers ≡ evidence_of c.args.evidence.now = sym (ap evidence_of c.in-Offers.is ∙ ap (λ (xs : List (Action g.row.A.Denot)). pure.ByOffers (map action_of xs)) (sym c.deref.ensures.value)) in
    let P : pure.Evidence → Type 0 = λ x. Sends (g.S.Sink.taken c.args.sink.now) (g.S.Sink.taken c.push_all-in-Offers-2.new.sink) (g.S.Sink.has_failed c.push_all-in-Offers-2.new.sink) (evidence_text script x) in
    on_ok_weaker c.push_all-in-Offers-2.result (λ last. subst P is (both c.in_ok-push_all-in-Offers.ensures.whole (both c.in_ok-push_offers-in-Offers.ensures.whole last))) c.push_all-in-Offers-2.ensures.whole

pub returns-in_ok-push_offers-in-Offers-clause-beginning : goal.returns-in_ok-push_offers-in-Offers-clause-beginning
returns-in_ok-push_offers-in-Offers-clause-beginning g c =
    let script = script_of c.args.script.now in
    let offers = map action_of c.deref.result.now in
    let is : pure.ByOffers offers ≡ evidence_of c.args.evidence.now = sym (ap evidence_of c.in-Offers.is ∙ ap (λ (xs : List (Action g.row.A.Denot)). pure.ByOffers (map action_of xs)) (sym c.deref.ensures.value)) in
    let P : pure.Evidence → Type 0 = λ x. Breaks (g.S.Sink.taken c.args.sink.now) (g.S.Sink.taken c.push_all-in-Offers-2.new.sink) (g.S.Sink.has_failed c.push_all-in-Offers-2.new.sink) (evidence_text script x) in
    on_err_weaker c.push_all-in-Offers-2.result (λ last. subst P is (later c.in_ok-push_all-in-Offers.ensures.whole (later c.in_ok-push_offers-in-Offers.ensures.whole last))) c.push_all-in-Offers-2.ensures.beginning
