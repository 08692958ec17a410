-- The steps so far and those of what is left are all.
use Rattle.std.proofs.Common.{length}
use Rattle.csp_fire.proofs.Within.{WithinSoFar}
use Rattle.csp_fire.proofs.firing.steps_within.Given as goal

abbrev pub invariant-loop-step : goal.invariant-loop-step
invariant-loop-step g l = WithinSoFar l.fn.answered.items (length l.yielded) l.steps.items
