-- One more step is by the action, or is not.
use Rattle.std.proofs.Common.{◌≡◌, map, Some, refl, sym, ◌∙◌, ap, arith}
use Rattle.std.proofs.lemmas.List.{length-map}
use Rattle.std.proofs.lemmas.Option.{slice_get-get_or}
use Rattle.theory_semantics.proofs.Rising.{Contains-from_stands}
use Rattle.theory_syntax.proofs.Places.{get_some}
use Rattle.theory_runs.proofs.Scanning.{none_zero, none_more, none_at_all}
use Rattle.csp_value.specs.Action.{action_of}
use Rattle.csp_term.specs.Term.{process_of}
use Rattle.csp_fire.specs.Form.{step_of}
use Rattle.csp_replay.proofs.evidence.has_step_by.Goals as goal

pub loop-step-init : goal.loop-step-init
loop-step-init g c = none_zero (λ s. s.0 ≡ action_of c.args.action.now) (map step_of c.args.steps.now)

pub returns-then-equal_actions : goal.returns-then-equal_actions
returns-then-equal_actions g c =
    let steps = c.args.steps.now in
    let i = c.loop-step.step-index in
    let s = c.step-item.result in
    let at = get_some step_of steps i s (slice_get-get_or steps i s c.loop-step-test.true ∙ ap Some (sym c.step-item.is)) in
    let same = c.equal_actions.ensures.0 c.if-equal_actions.true in (
      λ told. (process_of s.target, Contains-from_stands (map step_of steps) (action_of c.args.action.now, process_of s.target) (i, at ∙ ap (λ a. Some (a, process_of s.target)) same)),
      λ some. refl,
    )

pub loop-step-preserved : goal.loop-step-preserved
loop-step-preserved g c =
    let steps = c.args.steps.now in
    let i = c.loop-step.step-index in
    let s = c.step-item.result in
    let at = get_some step_of steps i s (slice_get-get_or steps i s c.loop-step-test.true ∙ ap Some (sym c.step-item.is)) in
    none_more (λ s. s.0 ≡ action_of c.args.action.now) (map step_of steps) i (step_of s) at (λ same. let told = c.equal_actions.ensures.1 same in let no = c.if-equal_actions.false in cc (told, no)) c.loop-step.invariant

pub returns : goal.returns
returns g c =
    let steps = c.args.steps.now in
    let long = length-map steps step_of in
    let past = c.loop-step-test.false in
    let none = none_at_all (λ s. s.0 ≡ action_of c.args.action.now) (map step_of steps) c.loop-step.step-index (omega (arith, long, past)) c.loop-step.invariant in (
      λ told. absurd (cc told),
      λ some. absurd (none (action_of c.args.action.now, some.0) some.1 refl),
    )
