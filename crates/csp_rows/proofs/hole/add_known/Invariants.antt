use Rattle.std.proofs.Common.{take}
use Rattle.csp_rows.specs.Stacks.{IsOnTop}
use Rattle.csp_rows.specs.Holes.{AreKnownIn}
use Rattle.csp_rows.proofs.hole.add_known.Given as goal

abbrev pub invariant-loop-step : goal.invariant-loop-step
invariant-loop-step g l = IsOnTop l.fn.steps.items (AreKnownIn l.hole (take l.step-index l.known) l.fn.pool.items l.pool.items) l.steps.items
