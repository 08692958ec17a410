-- The copies so far.
use Rattle.std.proofs.Common.{◌≡◌, map, take}
use Rattle.csp_term.specs.Term.{process_of}
use Rattle.spread_runs.proofs.loops.states_round.Given as goal

abbrev pub invariant-loop-state : goal.invariant-loop-state
invariant-loop-state g l = map process_of l.round.items ≡ map process_of (take l.state-index l.states)
