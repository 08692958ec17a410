-- Runs and loops of the code that spread others.
use Rattle.std.specs.Prelude.{ℕ, List, ◌∷◌, [], ◌++◌, map}
use Rattle.theory_syntax.specs.Value.{Action}
use Rattle.theory_syntax.specs.Process.{Process, Script}
use Rattle.theory_runs.specs.Lassos.{IsLasso}
use Rattle.theory_spread_runs.specs.Spread.{Spreads}
use Rattle.csp_value.specs.Action.{action_of}
use Rattle.csp_term.specs.Term.{process_of}
use Rattle.spread_runs.specs.declared.loops.SpreadLoop.{SpreadLoop}
use Rattle.spread_runs.specs.declared.runs.SpreadRun.{SpreadRun}
use Rattle.spread_runs.specs.declared.walk.Walk.{Walk}

-- it spreads the run by the path through the states
abbrev pub SpreadsRun : {A : Type 0} → Script → Process → List Action → List Process → SpreadRun A → Type 0
SpreadsRun script t path states run = Spreads script t path states (map action_of run.path.items) (map process_of run.states.items)

-- the same of a walk, with the state where it stands
abbrev pub SpreadsWalk : {A : Type 0} → Script → Process → List Action → List Process → Walk A → Type 0
SpreadsWalk script t path states w = Spreads script t path states (map action_of w.path.items) (map process_of w.behind.items ++ process_of w.here ∷ [])

-- Where taus of some reading lead through the states and back to the one at the place, taus of the script lead through those
-- of the loop and back.
abbrev pub SpreadsLoop : {A : Type 0} → Script → List Process → ℕ → SpreadLoop A → Type 0
SpreadsLoop script states back l =
    (other : Script) (t again : Process) → IsLasso other t states back again → IsLasso script t (map process_of l.states.items) l.back again
