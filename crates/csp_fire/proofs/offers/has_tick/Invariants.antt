use Rattle.csp_fire.specs.Form.{step_of}
use Rattle.csp_fire.specs.Offering.{is_tick}
use Rattle.std.proofs.Common.{◌≡◌, drop, map}
use Rattle.std.specs.List.{list_any}
use Rattle.csp_fire.proofs.offers.has_tick.Given as goal

abbrev pub invariant-loop-step : goal.invariant-loop-step
invariant-loop-step g l = list_any (λ s. is_tick s.0) (map step_of (drop l.step-index l.steps)) ≡ list_any (λ s. is_tick s.0) (map step_of l.steps)
