-- Each of the first actions is one of the others.
use Rattle.std.proofs.Common.{map, Contains}
use Rattle.theory_runs.proofs.Scanning.{EachBefore}
use Rattle.csp_value.specs.Action.{action_of}
use Rattle.csp_replay.proofs.least.is_within.Given as goal

abbrev pub invariant-loop-action : goal.invariant-loop-action
invariant-loop-action g l = EachBefore (Contains (map action_of l.actions)) (map action_of l.offer) l.action-index
