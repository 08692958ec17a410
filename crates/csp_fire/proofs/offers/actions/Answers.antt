-- The actions so far, and that of one more step.
use Rattle.std.proofs.Common.{◌≡◌, ◌-◌, ◌∙◌, length, map, refl, sym, ap, arith}
use Rattle.std.proofs.lemmas.List.{take_all}
use Rattle.std.specs.List.{slice_get}
use Rattle.std.specs.Option.{option_copied}
use Rattle.csp_value.specs.Action.{action_of}
use Rattle.csp_value.proofs.ActionEquality.{action_tells}
use Rattle.csp_fire.specs.Form.{step_of}
use Rattle.csp_fire.specs.Offering.{actions_of}
use Rattle.csp_fire.proofs.Adding.{same_again, another, first_one}
use Rattle.csp_fire.proofs.offers.actions.Goals as goal
use Rattle.csp_fire.proofs.offers.actions.Goals.{in-Some, in_default+in_ok-try_copy-in_default+in_ok-push-in_default, in_default-via-in-Some+else-eq, in_default-via-in_default}

pub loop-step-preserved : goal.loop-step-preserved
loop-step-preserved g c =
    let told = action_tells g.row.A g.A.AllocHandle g.A.AllocHandle-dict g.A.Allocator g.A.Allocator-dict g.A.Clone g.A.Clone-dict in
    let taken = c.loop-step.actions.items in
    let step = c.step-item.result in
    let steps = c.args.steps.now in
    let i = c.loop-step.step-index in
    let last : option_copied c.last.result ≡ slice_get taken (length taken - 1) = c.last.ensures.value ∙ ap (λ xs. slice_get xs (length xs - 1)) c.deref.ensures.value in
    elim c.match-last.branch [
      | in-Some w ↦ ap (λ v. map action_of v.items) w.actions-is
          ∙ same_again action_of told step_of steps i step step.action c.loop-step-test.true c.step-item.is refl taken c.loop-step.invariant w.in-Some.last.now w.eq.result (sym last ∙ ap option_copied w.in-Some.is) w.eq.ensures w.if-eq.true
      | in_default+in_ok-try_copy-in_default+in_ok-push-in_default w ↦ elim w.in_default.branch [
        | in_default-via-in-Some+else-eq v ↦ ap (λ v. map action_of v.items) w.actions-is
            ∙ another action_of told step_of steps i step step.action c.loop-step-test.true c.step-item.is refl taken c.loop-step.invariant v.in-Some.last.now w.in_ok-try_copy-in_default.field-0 w.push.new.self.items v.eq.result
            (sym last ∙ ap option_copied v.in-Some.is) v.eq.ensures v.if-eq.false w.in_ok-try_copy-in_default.ensures w.in_ok-push-in_default.ensures.items
        | in_default-via-in_default v ↦ ap (λ v. map action_of v.items) w.actions-is
            ∙ first_one action_of told step_of steps i step step.action c.loop-step-test.true c.step-item.is refl taken c.loop-step.invariant w.in_ok-try_copy-in_default.field-0 w.push.new.self.items
            (sym last ∙ ap option_copied v.in_default.is) w.in_ok-try_copy-in_default.ensures w.in_ok-push-in_default.ensures.items
      ]
    ]

pub returns : goal.returns
returns g c =
    let done = take_all c.loop-step.step-index c.args.steps.now (omega arith) in
    c.loop-step.invariant ∙ ap (λ ss. actions_of (map step_of ss)) done
