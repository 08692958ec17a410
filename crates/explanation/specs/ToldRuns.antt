-- Runs to stuck states, with where their steps come from.
use Rattle.std.specs.Prelude.{◌≡◌, map}
use Rattle.theory_syntax.specs.Process.{Process, Script}
use Rattle.csp_value.specs.Action.{action_of}
use Rattle.csp_term.specs.Term.{process_of}
use Rattle.counterexample.specs.Counterexample.{origins_listed}
use Rattle.theory_explanation.specs.Counterexamples.{AreOriginsAlong}
use Rattle.theory_explanation.specs.Faults.{IsSpreadRun}
use Rattle.csp_replay.specs.declared.way_to_stuck.StuckRun.{StuckRun}
use Rattle.explanation.specs.declared.told_run.ToldRun.{ToldRun}

-- the run, with the origins of its steps
abbrev pub HasOriginsOf : {A : Type 0} → Script → StuckRun A → ToldRun A → Type 0
HasOriginsOf script run told =
    (told.run ≡ run) × AreOriginsAlong script (map action_of run.path.items) (map process_of run.states.items) (origins_listed told.origins.items)

-- the one run is a run from t by the script as it is written that spreads the other
abbrev pub SpreadsTold : {A : Type 0} → Script → Process → ToldRun A → ToldRun A → Type 0
SpreadsTold script t told spread =
    IsSpreadRun script t (map action_of told.run.path.items) (map process_of told.run.states.items) (map action_of spread.run.path.items) (map process_of spread.run.states.items) (origins_listed spread.origins.items)
