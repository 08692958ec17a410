-- What is told of a story.
use Rattle.std.specs.Prelude.{ℕ, List, [], drop, map}
use Rattle.theory_syntax.specs.Process.{Process}
use Rattle.theory_explanation.specs.Steps.{steps_text, states_text, told_run}
use Rattle.theory_explanation.specs.Styles.{Style}
use Rattle.csp_value.specs.Action.{action_of}
use Rattle.csp_term.specs.Term.{process_of}
use Rattle.csp_replay.specs.Along.{states_listed}
use Rattle.counterexample.specs.Counterexample.{origins_listed}
use Rattle.counterexample.specs.declared.story.Story.{Story}

abbrev pub story_of : {A : Type 0} → Style → Story A → List ℕ
story_of style s = told_run style.telling style (map action_of s.path.now) (process_of s.start.now) (map process_of s.states.now) (origins_listed s.origins.now) (states_listed s.along.now)

-- with the states
abbrev pub states_of : {A : Type 0} → Style → Story A → List ℕ
states_of style s = states_text style (map action_of s.path.now) (process_of s.start.now) (map process_of s.states.now) (origins_listed s.origins.now) (states_listed s.along.now)

-- its steps, behind the state that was told last
abbrev pub steps_of : {A : Type 0} → Style → Story A → Process → List ℕ
steps_of style s told = steps_text style 1 told [] (map action_of s.path.now) (map process_of s.states.now) (origins_listed s.origins.now) (drop 1 (states_listed s.along.now))
