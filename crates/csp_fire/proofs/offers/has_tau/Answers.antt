-- The first such step decides.
use Rattle.std.proofs.Common.{map, sym, ◌∙◌, ap, arith}
use Rattle.std.proofs.lemmas.List.{drop_all}
use Rattle.std.specs.List.{list_any}
use Rattle.csp_value.specs.Action.{action_of}
use Rattle.csp_fire.specs.Form.{step_of}
use Rattle.csp_fire.specs.Offering.{is_tau}
use Rattle.csp_fire.proofs.Scanning.{found_here, found_later, not_tau}
use Rattle.csp_fire.proofs.offers.has_tau.Goals as goal

pub returns-in-Tau : goal.returns-in-Tau
returns-in-Tau g c =
    found_here step_of (λ s. is_tau s.0) c.args.steps.now c.loop-step.step-index c.step-item.result c.loop-step-test.true c.step-item.is c.loop-step.invariant (ap (λ a. is_tau (action_of a)) c.in-Tau.is)

pub loop-step-preserved : goal.loop-step-preserved
loop-step-preserved g c =
    found_later step_of (λ s. is_tau s.0) c.args.steps.now c.loop-step.step-index c.step-item.result c.loop-step-test.true c.step-item.is c.loop-step.invariant (not_tau c.step-item.result.action c.in_default.not-Tau)

pub returns : goal.returns
returns g c =
    let done = drop_all c.loop-step.step-index c.args.steps.now (omega arith) in
    sym (ap (λ xs. list_any (λ s. is_tau s.0) (map step_of xs)) done) ∙ c.loop-step.invariant
