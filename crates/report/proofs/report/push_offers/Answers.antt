use Rattle.std.proofs.Common.{◌≡◌, ℕ, ◌+◌, List, ◌∷◌, ◌++◌, map, suc, drop, ap, ◌∙◌, sym, subst, add-one, drop-cons}
use Rattle.std.proofs.lemmas.List.{drop_all, nil_from_length}
use Rattle.theory_search.specs.Printing.{actions_text, action_text}
use Rattle.csp_value.specs.declared.action.Action.{Action}
use Rattle.csp_value.specs.Action.{action_of}
use Rattle.csp_term.specs.Script.{script_of}
use Rattle.report.specs.Sending.{Sends, Breaks}
use Rattle.report.proofs.Joining.{following, joins}
use Rattle.report.proofs.Sending.{IsUnderWay, appends_nothing, arrives, begins, both, goes_on, later, on_error, sooner, stops}
use Rattle.report.proofs.report.push_offers.Goals as goal

pub loop-action-preserved : goal.loop-action-preserved
loop-action-preserved g c =
    let others = c.in-Some.others.now in
    let i = c.loop-action.action-index in
    let texts = λ (xs : List (Action g.row.A.Denot)). map (action_text (script_of c.args.script.now)) (map action_of xs) in
    let first : drop i others ≡ c.action-item.result ∷ drop (i + 1) others =
    rw add-one (drop-cons others i c.action-item.result c.loop-action-test.true ∙ ap (λ v. v ∷ drop (suc i) others) (sym c.action-item.is)) in
    let P : List (Action g.row.A.Denot) → Type 0 = λ xs.
    IsUnderWay (g.S.Sink.taken c.push_action.new.sink) (g.S.Sink.taken c.loop-action.sink) (g.S.Sink.has_failed c.loop-action.sink) (following (texts others)) (following (texts xs)) in
    goes_on (subst P first c.loop-action.invariant) c.in_ok-push_next.ensures.whole

pub returns-in_err-push_next-clause-beginning : goal.returns-in_err-push_next-clause-beginning
returns-in_err-push_next-clause-beginning g c =
    let others = c.in-Some.others.now in
    let i = c.loop-action.action-index in
    let script = script_of c.args.script.now in
    let texts = λ (xs : List (Action g.row.A.Denot)). map (action_text script) (map action_of xs) in
    let first : drop i others ≡ c.action-item.result ∷ drop (i + 1) others =
    rw add-one (drop-cons others i c.action-item.result c.loop-action-test.true ∙ ap (λ v. v ∷ drop (suc i) others) (sym c.action-item.is)) in
    let P : List (Action g.row.A.Denot) → Type 0 = λ xs.
    IsUnderWay (g.S.Sink.taken c.push_action.new.sink) (g.S.Sink.taken c.loop-action.sink) (g.S.Sink.has_failed c.loop-action.sink) (following (texts others)) (following (texts xs)) in
    let Q : List ℕ → Type 0 = λ text. Breaks (g.S.Sink.taken c.args.sink.now) (g.S.Sink.taken c.push_next.new.sink) (g.S.Sink.has_failed c.push_next.new.sink) text in
    let whole = sym (joins (action_text script (action_of c.in-Some.first.now)) (texts others)) ∙ ap (λ (xs : List (Action g.row.A.Denot)). actions_text script (map action_of xs)) (sym c.in-Some.ensures.cases.0) in
    on_error c.from_residual-in_err-push_next.result
    (subst Q whole (later c.in_ok-push_action.ensures.whole (stops (following (texts (drop (i + 1) others))) (subst P first c.loop-action.invariant) c.in_err-push_next.ensures.beginning)))

pub returns-in_err-push_action-clause-beginning : goal.returns-in_err-push_action-clause-beginning
returns-in_err-push_action-clause-beginning g c =
    let others = c.in-Some.others.now in
    let script = script_of c.args.script.now in
    let texts = λ (xs : List (Action g.row.A.Denot)). map (action_text script) (map action_of xs) in
    let Q : List ℕ → Type 0 = λ text. Breaks (g.S.Sink.taken c.args.sink.now) (g.S.Sink.taken c.push_action.new.sink) (g.S.Sink.has_failed c.push_action.new.sink) text in
    let whole = sym (joins (action_text script (action_of c.in-Some.first.now)) (texts others)) ∙ ap (λ (xs : List (Action g.row.A.Denot)). actions_text script (map action_of xs)) (sym c.in-Some.ensures.cases.0) in
    on_error c.from_residual.result (subst Q whole (sooner (following (texts others)) c.in_err-push_action.ensures.beginning))

pub returns-after-loop-action-clause-whole : goal.returns-after-loop-action-clause-whole
returns-after-loop-action-clause-whole g c =
    let others = c.in-Some.others.now in
    let script = script_of c.args.script.now in
    let texts = λ (xs : List (Action g.row.A.Denot)). map (action_text script) (map action_of xs) in
    let none = drop_all c.loop-action.action-index others c.loop-action-test.false in
    let P : List (Action g.row.A.Denot) → Type 0 = λ xs.
    IsUnderWay (g.S.Sink.taken c.push_action.new.sink) (g.S.Sink.taken c.loop-action.sink) (g.S.Sink.has_failed c.loop-action.sink) (following (texts others)) (following (texts xs)) in
    let Q : List ℕ → Type 0 = λ text. Sends (g.S.Sink.taken c.args.sink.now) (g.S.Sink.taken c.loop-action.sink) (g.S.Sink.has_failed c.loop-action.sink) text in
    let whole = sym (joins (action_text script (action_of c.in-Some.first.now)) (texts others)) ∙ ap (λ (xs : List (Action g.row.A.Denot)). actions_text script (map action_of xs)) (sym c.in-Some.ensures.cases.0) in
    subst Q whole (both c.in_ok-push_action.ensures.whole (arrives (subst P none c.loop-action.invariant)))

pub loop-action-init : goal.loop-action-init
loop-action-init g c = begins _ _ _ c.in_ok-push_action.ensures.whole.works

pub returns-in_default-clause-whole : goal.returns-in_default-clause-whole
returns-in_default-clause-whole g c =
    let old = g.S.Sink.taken c.args.sink.now in
    let none = nil_from_length c.args.offers.now c.in_default.ensures.cases in
    let P : List (Action g.row.A.Denot) → Type 0 = λ xs. Sends old old (g.S.Sink.has_failed c.args.sink.now) (actions_text (script_of c.args.script.now) (map action_of xs)) in
    subst P (sym none) (record { bytes = appends_nothing old; works = c.requires })
