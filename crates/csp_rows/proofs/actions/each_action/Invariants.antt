use Rattle.std.proofs.Common.{◌≡◌, map, take}
use Rattle.csp_rows.proofs.actions.each_action.Given as goal

abbrev pub invariant-loop-step : goal.invariant-loop-step
invariant-loop-step g l = l.actions.items ≡ map (λ s. s.action) (take l.step-index l.steps)
