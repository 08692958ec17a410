use Rattle.std.proofs.Common.{List, ℕ, ◌≡◌, ◌++◌, ◌∷◌, map, ap, ◌∙◌, sym, subst, inl, inr, lit<, lit≤, rules}
use Rattle.std.specs.Prelude.{false}
use Rattle.theory_syntax.specs.Value.{Action}
use Rattle.theory_semantics.specs.Meaning.Runs.{trace}
use Rattle.theory_search.specs.Printing.{actions_text, action_text}
use Rattle.csp_value.specs.Action.{action_of}
use Rattle.csp_term.specs.Script.{script_of}
use Rattle.verdict.specs.declared.trace.Trace.{Trace}
use Rattle.verdict.specs.Outcome.{trace_left, violation_of}
use Rattle.report.specs.Sending.{Sends, Breaks}
use Rattle.report.proofs.Joining.{following, joins}
use Rattle.report.proofs.Sending.{IsUnderWay, appends_nothing, arrives, begins, both, goes_on, later, on_error, sooner, stops}
use Rattle.report.proofs.report.push_trace.Goals as goal

pub loop-action-init : goal.loop-action-init
loop-action-init g c = begins _ _ _ c.in_ok-push_action.ensures.whole.works

pub loop-action-preserved : goal.loop-action-preserved
loop-action-preserved g c =
    let texts = λ (xs : List Action). map (action_text (script_of c.args.script.now)) xs in
    let P : List Action → Type 0 = λ xs.
    IsUnderWay (g.S.Sink.taken c.push_action.new.sink) (g.S.Sink.taken c.loop-action.sink) (g.S.Sink.has_failed c.loop-action.sink) (following (texts (trace_left c.into_iter-action-iterator.result))) (following (texts xs)) in
    goes_on (subst P c.in-Some-action.ensures.steps c.loop-action.invariant) c.in_ok-push_next.ensures.whole

pub returns-in_err-push_next-clause-beginning : goal.returns-in_err-push_next-clause-beginning
returns-in_err-push_next-clause-beginning g c =
    let texts = λ (xs : List Action). map (action_text (script_of c.args.script.now)) xs in
    let P : List Action → Type 0 = λ xs.
    IsUnderWay (g.S.Sink.taken c.push_action.new.sink) (g.S.Sink.taken c.loop-action.sink) (g.S.Sink.has_failed c.loop-action.sink) (following (texts (trace_left c.into_iter-action-iterator.result))) (following (texts xs)) in
    let script = script_of c.args.script.now in
    let all = sym (joins (action_text script (action_of c.in-Some.first.now)) (texts (trace_left c.next.new.self))) ∙ ap (actions_text script) (sym c.in-Some.ensures.steps ∙ c.trace-trace.ensures) in
    let Q : List ℕ → Type 0 = λ text. Breaks (g.S.Sink.taken c.args.sink.now) (g.S.Sink.taken c.push_next.new.sink) (g.S.Sink.has_failed c.push_next.new.sink) text in
    let R : Trace g.row.A.Denot → Type 0 = λ t. Breaks (g.S.Sink.taken c.push_action.new.sink) (g.S.Sink.taken c.push_next.new.sink) (g.S.Sink.has_failed c.push_next.new.sink) (following (texts (trace_left t))) in
    let others = stops (following (texts (trace_left c.next-in-loop-action.new.self))) (subst P c.in-Some-action.ensures.steps c.loop-action.invariant) c.in_err-push_next.ensures.beginning in
    on_error c.from_residual-in_err-push_next.result (subst Q all (later c.in_ok-push_action.ensures.whole (subst R c.into_iter-action-iterator.ensures.into_iter_gives others)))

pub returns-in_default-clause-whole : goal.returns-in_default-clause-whole
returns-in_default-clause-whole g c =
    let old = g.S.Sink.taken c.args.sink.now in
    let P : List Action → Type 0 = λ xs. Sends old old (g.S.Sink.has_failed c.args.sink.now) (actions_text (script_of c.args.script.now) xs) in
    subst P (sym (sym c.trace-trace.ensures ∙ c.in_default.ensures.steps.0)) (record { bytes = appends_nothing old; works = c.requires })

pub returns-in_err-push_action-clause-beginning : goal.returns-in_err-push_action-clause-beginning
returns-in_err-push_action-clause-beginning g c =
    let script = script_of c.args.script.now in
    let texts = λ (xs : List Action). map (action_text script) xs in
    let P : List ℕ → Type 0 = λ text. Breaks (g.S.Sink.taken c.args.sink.now) (g.S.Sink.taken c.push_action.new.sink) (g.S.Sink.has_failed c.push_action.new.sink) text in
    let all = sym (joins (action_text script (action_of c.in-Some.first.now)) (texts (trace_left c.next.new.self))) ∙ ap (actions_text script) (sym c.in-Some.ensures.steps ∙ c.trace-trace.ensures) in
    on_error c.from_residual.result (subst P all (sooner (following (texts (trace_left c.next.new.self))) c.in_err-push_action.ensures.beginning))

pub returns-in-None-clause-whole : goal.returns-in-None-clause-whole
returns-in-None-clause-whole g c =
    let texts = λ (xs : List Action). map (action_text (script_of c.args.script.now)) xs in
    let P : List Action → Type 0 = λ xs.
    IsUnderWay (g.S.Sink.taken c.push_action.new.sink) (g.S.Sink.taken c.loop-action.sink) (g.S.Sink.has_failed c.loop-action.sink) (following (texts (trace_left c.into_iter-action-iterator.result))) (following (texts xs)) in
    let script = script_of c.args.script.now in
    let all = sym (joins (action_text script (action_of c.in-Some.first.now)) (texts (trace_left c.next.new.self))) ∙ ap (actions_text script) (sym c.in-Some.ensures.steps ∙ c.trace-trace.ensures) in
    let Q : List ℕ → Type 0 = λ text. Sends (g.S.Sink.taken c.args.sink.now) (g.S.Sink.taken c.loop-action.sink) (g.S.Sink.has_failed c.loop-action.sink) text in
    let R : Trace g.row.A.Denot → Type 0 = λ t. Sends (g.S.Sink.taken c.push_action.new.sink) (g.S.Sink.taken c.loop-action.sink) (g.S.Sink.has_failed c.loop-action.sink) (following (texts (trace_left t))) in
    subst Q all (both c.in_ok-push_action.ensures.whole (subst R c.into_iter-action-iterator.ensures.into_iter_gives (arrives (subst P c.in-None.ensures.steps.0 c.loop-action.invariant))))

pub next-requires : goal.next-requires
next-requires g c =
    elim g.met.A.AllocHandle.small [
      | inl e ↦ rw (e.0, e.1) (lit≤ tt, tt)
      | inr e ↦ rw (e.0, e.1) (lit≤ tt, tt)
    ]

pub push_action-requires : goal.push_action-requires
push_action-requires g c =
    let works : g.S.Sink.has_failed c.args.sink.now ≡ false = search rules in
    elim g.met.A.AllocHandle.small [
      | inl e ↦ rw (e.0, e.1) (lit< tt, works)
      | inr e ↦ rw (e.0, e.1) (lit< tt, works)
    ]

pub into_iter-action-iterator-requires-room-I-Iterator : goal.into_iter-action-iterator-requires-room-I-Iterator
into_iter-action-iterator-requires-room-I-Iterator g c κs within =
    elim g.met.A.AllocHandle.small [
      | inl e ↦ rw (e.0, e.1) (lit< tt)
      | inr e ↦ rw (e.0, e.1) (lit< tt)
    ]

pub next-requires-in-loop-action : goal.next-requires-in-loop-action
next-requires-in-loop-action g c =
    elim g.met.A.AllocHandle.small [
      | inl e ↦ rw (e.0, e.1) (lit≤ tt, tt)
      | inr e ↦ rw (e.0, e.1) (lit≤ tt, tt)
    ]

pub push_next-requires : goal.push_next-requires
push_next-requires g c =
    elim g.met.A.AllocHandle.small [
      | inl e ↦ rw (e.0, e.1) (lit< tt, c.loop-action.invariant.works)
      | inr e ↦ rw (e.0, e.1) (lit< tt, c.loop-action.invariant.works)
    ]
