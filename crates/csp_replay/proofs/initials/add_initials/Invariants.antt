-- The actions of the first steps.
use Rattle.std.proofs.Common.{map}
use Rattle.theory_runs.specs.Gathering.{Gathers}
use Rattle.theory_runs.proofs.Gathering.{IsOfFirst}
use Rattle.theory_runs.proofs.Initials.{IsStepBy}
use Rattle.csp_value.specs.Action.{action_of}
use Rattle.csp_fire.specs.Form.{step_of}
use Rattle.csp_replay.proofs.initials.add_initials.Given as goal

abbrev pub invariant-loop-step : goal.invariant-loop-step
invariant-loop-step g l = Gathers (map action_of l.fn.initials.items) (IsOfFirst IsStepBy (map step_of l.steps) l.step-index) (map action_of l.initials.items)
