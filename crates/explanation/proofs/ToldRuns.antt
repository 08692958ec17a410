-- A run to a stuck state, with where its steps come from, is a run that is told.
use Rattle.std.proofs.Common.{◌≡◌, ℕ, suc, Some, length, map, sym, subst, arith}
use Rattle.std.proofs.lemmas.List.{length-map}
use Rattle.theory_syntax.specs.Process.{Assertion, Process, Script}
use Rattle.theory_runs.specs.Stuck.{Hindrance}
use Rattle.csp_value.specs.Action.{action_of}
use Rattle.csp_term.specs.Term.{process_of}
use Rattle.theory_explanation.specs.Faults.{IsFound, IsToldRun, OfImplementation, OfSpecification, SideRun}
use Rattle.theory_explanation.proofs.Replays.{visits_length}
use Rattle.counterexample.specs.Counterexample.{origins_listed}
use Rattle.csp_replay.specs.Running.{IsRunTo}
use Rattle.csp_replay.specs.declared.way_to_stuck.StuckRun.{StuckRun}
use Rattle.explanation.specs.Sides.{IsEven}
use Rattle.explanation.specs.ToldRuns.{HasOriginsOf}
use Rattle.explanation.specs.declared.told_run.ToldRun.{ToldRun}

module _ {A : Type 0} (script : Script) (t : Process) (h : Hindrance) (run : StuckRun A) (leads : IsRunTo script t h run) where
  -- one state before each action of the path, and one at its end
  pub one_state_more : length run.states.items ≡ suc (length run.path.items)
  one_state_more =
      let long = visits_length script (map action_of run.path.items) t leads.end (map process_of run.states.items) leads.visits in
      let states = length-map run.states.items process_of in
      let path = length-map run.path.items action_of in
      omega (arith, long, states, path)

  pub told_of : (told : ToldRun A) → HasOriginsOf script run told →
      IsToldRun script t h (map action_of told.run.path.items) (map process_of told.run.states.items) (origins_listed told.origins.items)
  told_of told is =
      let T : StuckRun A → Type 0 = λ r. IsToldRun script t h (map action_of r.path.items) (map process_of r.states.items) (origins_listed told.origins.items) in
      subst T (sym is.0) (record { run = leads; told = is.1 })

-- a run that is found has one state before each action, and one at its end
pub found_even : (script : Script) (a : Assertion) (h : Hindrance) (n : ℕ) (run : SideRun) → IsFound script a h n (Some run) → IsEven run
found_even script a h n (OfImplementation path states origins) is = visits_length script path a.implementation is.told.run.end states is.told.run.visits
found_even script a h n (OfSpecification path states origins) is = visits_length script path is.0 is.2.run.end states is.2.run.visits
