-- None of the first events is the one.
use Rattle.std.proofs.Common.{take, map, Contains}
use Rattle.csp_value.specs.Action.{event_of}
use Rattle.csp_moves.proofs.passing.is_among.Given as goal

abbrev pub invariant-loop-other : goal.invariant-loop-other
invariant-loop-other g l = ¬ Contains (map event_of (take l.other-index l.events)) (event_of l.event)
