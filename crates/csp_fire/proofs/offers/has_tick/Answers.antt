-- The first such step decides.
use Rattle.std.proofs.Common.{map, sym, ◌∙◌, ap, arith}
use Rattle.std.proofs.lemmas.List.{drop_all}
use Rattle.std.specs.List.{list_any}
use Rattle.csp_value.specs.Action.{action_of}
use Rattle.csp_fire.specs.Form.{step_of}
use Rattle.csp_fire.specs.Offering.{is_tick}
use Rattle.csp_fire.proofs.Scanning.{found_here, found_later, not_tick}
use Rattle.csp_fire.proofs.offers.has_tick.Goals as goal

pub returns-in-Tick : goal.returns-in-Tick
returns-in-Tick g c =
    found_here step_of (λ s. is_tick s.0) c.args.steps.now c.loop-step.step-index c.step-item.result c.loop-step-test.true c.step-item.is c.loop-step.invariant (ap (λ a. is_tick (action_of a)) c.in-Tick.is)

pub loop-step-preserved : goal.loop-step-preserved
loop-step-preserved g c =
    found_later step_of (λ s. is_tick s.0) c.args.steps.now c.loop-step.step-index c.step-item.result c.loop-step-test.true c.step-item.is c.loop-step.invariant (not_tick c.step-item.result.action c.in_default.not-Tick)

pub returns : goal.returns
returns g c =
    let done = drop_all c.loop-step.step-index c.args.steps.now (omega arith) in
    sym (ap (λ xs. list_any (λ s. is_tick s.0) (map step_of xs)) done) ∙ c.loop-step.invariant
