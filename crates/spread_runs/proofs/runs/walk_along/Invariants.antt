-- So much of the run is spread.
use Rattle.std.proofs.Common.{map, take}
use Rattle.csp_value.specs.Action.{action_of}
use Rattle.csp_term.specs.Script.{script_of}
use Rattle.csp_term.specs.Term.{process_of}
use Rattle.spread_runs.specs.Walk.{IsAlong}
use Rattle.spread_runs.proofs.runs.walk_along.Given as goal

abbrev pub invariant-loop-place : goal.invariant-loop-place
invariant-loop-place g l =
    IsAlong (script_of l.written) (process_of l.start) (map action_of (take l.place l.path)) (map process_of (take l.place l.states)) (map process_of l.states) l.place l.walk
