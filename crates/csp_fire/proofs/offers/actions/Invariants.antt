use Rattle.csp_fire.specs.Form.{step_of}
use Rattle.csp_fire.specs.Offering.{actions_of}
use Rattle.csp_value.specs.Action.{action_of}
use Rattle.std.proofs.Common.{◌≡◌, map, take}
use Rattle.csp_fire.proofs.offers.actions.Given as goal

abbrev pub invariant-loop-step : goal.invariant-loop-step
invariant-loop-step g l = map action_of l.actions.items ≡ actions_of (map step_of (take l.step-index l.steps))
