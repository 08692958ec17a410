-- None of the steps so far is by the action.
use Rattle.std.proofs.Common.{◌≡◌, map}
use Rattle.theory_runs.proofs.Scanning.{NoneBefore}
use Rattle.csp_value.specs.Action.{action_of}
use Rattle.csp_fire.specs.Form.{step_of}
use Rattle.csp_replay.proofs.evidence.has_step_by.Given as goal

abbrev pub invariant-loop-step : goal.invariant-loop-step
invariant-loop-step g l = NoneBefore (λ s. s.0 ≡ action_of l.action) (map step_of l.steps) l.step-index
