-- One more action, or a tau.
use Rattle.std.proofs.Common.{◌≡◌, ◌++◌, ◌∷◌, [], map, Contains, Some, sym, ◌∙◌, ap, subst, arith}
use Rattle.std.proofs.lemmas.List.{length-map, map-append}
use Rattle.std.proofs.lemmas.Option.{slice_get-get_or}
use Rattle.theory_syntax.specs.Value as pure
use Rattle.theory_syntax.specs.Process.{Process}
use Rattle.theory_syntax.proofs.Places.{get_some}
use Rattle.theory_semantics.specs.Meaning.Transitions.{IsVisible}
use Rattle.theory_runs.specs.Initials.{IsInitialBy}
use Rattle.theory_runs.proofs.Gathering.{gather_none, gather_more, gather_skip, gather_all, gathers_one, gathers_same}
use Rattle.theory_runs.proofs.Initials.{IsStepBy, initial_steps, step_alone}
use Rattle.csp_value.specs.Action.{action_of}
use Rattle.csp_fire.specs.Form.{step_of}
use Rattle.csp_replay.proofs.Visible.{is_visible}
use Rattle.csp_replay.proofs.initials.add_initials.Goals as goal

pub loop-step-init : goal.loop-step-init
loop-step-init g c = gather_none IsStepBy (map step_of c.args.steps.now) (map action_of c.args.initials.now.items)

pub loop-step-preserved-in-Tau : goal.loop-step-preserved-in-Tau
loop-step-preserved-in-Tau g c =
    let steps = c.args.steps.now in
    let i = c.loop-step.step-index in
    let s = c.step-item.result in
    let at = get_some step_of steps i s (slice_get-get_or steps i s c.loop-step-test.true ∙ ap Some (sym c.step-item.is)) in
    gather_skip IsStepBy (map step_of steps) (map action_of c.args.initials.now.items) i (map action_of c.loop-step.initials.items) (step_of s) c.loop-step.invariant at
    (λ x h. subst IsVisible (sym h.1 ∙ ap action_of c.in-Tau.is) h.0)

pub loop-step-preserved : goal.loop-step-preserved
loop-step-preserved g c =
    let steps = c.args.steps.now in
    let i = c.loop-step.step-index in
    let s = c.step-item.result in
    let at = get_some step_of steps i s (slice_get-get_or steps i s c.loop-step-test.true ∙ ap Some (sym c.step-item.is)) in
    let now = c.loop-step.initials.items in
    let more = c.push.new.self.items in
    let copy = c.in_ok-try_copy.field-0 in
    let pushed : map action_of more ≡ map action_of now ++ action_of s.action ∷ [] = ap (map action_of) c.in_ok-push.ensures.items ∙ map-append action_of now (copy ∷ []) ∙ ap (λ x. map action_of now ++ x ∷ []) c.in_ok-try_copy.ensures in
    gather_more IsStepBy (map step_of steps) (map action_of c.args.initials.now.items) i (map action_of now) (map action_of more) (step_of s) c.loop-step.invariant at
    (gathers_same (λ x. x ≡ action_of s.action) (IsStepBy (step_of s)) (map action_of now) (map action_of more) (step_alone (step_of s) (is_visible s.action c.in_default.not-Tau)) (gathers_one (map action_of now) (map action_of more) (action_of s.action) pushed))

pub returns : goal.returns
returns g c =
    let steps = map step_of c.args.steps.now in
    let old = map action_of c.args.initials.now.items in
    let new = map action_of c.loop-step.initials.items in
    let long = length-map c.args.steps.now step_of in
    let past = c.loop-step-test.false in
    gathers_same (λ x. (s : pure.Action × Process) × Contains steps s × IsStepBy s x) (IsInitialBy steps) old new (initial_steps steps) (gather_all IsStepBy steps old c.loop-step.step-index new c.loop-step.invariant (omega (arith, long, past)))
