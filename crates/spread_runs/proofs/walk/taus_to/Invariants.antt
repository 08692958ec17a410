-- The walk has gone on by taus.
use Rattle.csp_term.specs.Script.{script_of}
use Rattle.spread_runs.specs.Walk.{GoesOn}
use Rattle.spread_runs.proofs.walk.taus_to.Given as goal

abbrev pub invariant-loop : goal.invariant-loop
invariant-loop g l = GoesOn (script_of l.written) l.fn.walk l.walk
