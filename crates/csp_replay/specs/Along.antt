-- The states after the beginnings of a path.
use Rattle.std.specs.Prelude.{ℕ, List, Vec, map}
use Rattle.theory_syntax.specs.Value.{Action}
use Rattle.theory_syntax.specs.Process.{Process, Script}
use Rattle.theory_runs.specs.States.{AreStatesAlong, AreSmall, AreMoreAlong}
use Rattle.csp_term.specs.Term.{process_of}
use Rattle.csp_term.specs.declared.term.Term.{Term}
use Rattle.csp_replay.specs.declared.along.Along.{Along}
use Rattle.csp_replay.specs.declared.along.Along.TheVariants as variant

abbrev pub states_listed : {A : Type 0} → List (Vec (Term A) A) → List (List Process)
states_listed all = map (λ states. map process_of states.items) all

-- the states of t after the trace of each beginning of the path, at most n each time, or that they are more after one
abbrev pub TellsStates : {A : Type 0} → Script → Process → List Action → ℕ → Along A → Type 0
TellsStates script t path n (variant.States all) = AreStatesAlong script t path (states_listed all.items) × AreSmall n (states_listed all.items)
TellsStates script t path n variant.TooMany = AreMoreAlong n script t path
