-- The taus so far.
use Rattle.std.proofs.Common.{◌≡◌, ◌≤◌, map, replicate}
use Rattle.theory_syntax.specs.Value.{Tau}
use Rattle.csp_value.specs.Action.{action_of}
use Rattle.spread_runs.proofs.loops.taus.Given as goal

abbrev pub invariant-loop : goal.invariant-loop
invariant-loop g l = record {
  taus : map action_of l.taus.items ≡ replicate l.counter Tau;
  few : l.counter ≤ l.count;
}
