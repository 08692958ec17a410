-- What the first states can do.
use Rattle.std.proofs.Common.{[], map}
use Rattle.theory_runs.specs.Gathering.{Gathers}
use Rattle.theory_runs.proofs.Gathering.{IsOfFirst}
use Rattle.theory_runs.proofs.Initials.{CanDoVisibly}
use Rattle.csp_value.specs.Action.{action_of}
use Rattle.csp_term.specs.Script.{script_of}
use Rattle.csp_term.specs.Term.{process_of}
use Rattle.csp_replay.proofs.initials.initials_of.Given as goal

abbrev pub invariant-loop-state : goal.invariant-loop-state
invariant-loop-state g l = Gathers [] (IsOfFirst (CanDoVisibly (script_of l.script)) (map process_of l.states) l.state-index) (map action_of l.initials.items)
