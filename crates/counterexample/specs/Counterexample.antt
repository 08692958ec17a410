-- The counterexample that one of the code stands for.
use Rattle.std.specs.Prelude.{◌<◌, ℕ, List, Option, Some, None, length, map, option_map, ⊤}
use Rattle.std.specs.Borrow.{Bor}
use Rattle.theory_syntax.specs.Process.{Assertion, Process, Script}
use Rattle.theory_semantics.specs.Meaning.Violations.{Violation}
use Rattle.theory_runs.specs.States.{HasNoReplay, IsReplay}
use Rattle.theory_origins.specs.Origin as origin
use Rattle.theory_explanation.specs.Counterexamples as pure
use Rattle.csp_value.specs.Action.{action_of}
use Rattle.csp_term.specs.Script.{script_of}
use Rattle.csp_term.specs.Term.{process_of}
use Rattle.csp_term.specs.declared.term.Term.{Term}
use Rattle.csp_moves.specs.Origin.{origin_of}
use Rattle.csp_moves.specs.declared.origin.Origin.{Origin}
use Rattle.csp_replay.specs.Along.{states_listed}
use Rattle.csp_replay.specs.Offers.{offers_listed}
use Rattle.csp_moves.specs.Passage.{side_of}
use Rattle.csp_replay.specs.Endings.{IsLassoFor}
use Rattle.csp_replay.specs.Lassos.{IsLassoFrom}
use Rattle.csp_replay.specs.declared.lasso.Lasso.{Lasso}
use Rattle.counterexample.specs.declared.counterexamples.Counterexample.{Counterexample}
use Rattle.counterexample.specs.declared.counterexamples.Replayed.{Replayed}
use Rattle.counterexample.specs.declared.counterexamples.Replayed.TheVariants as replayed
use Rattle.counterexample.specs.declared.looping.Looping.{Looping}
use Rattle.counterexample.specs.declared.sides.Sides.{Sides}
use Rattle.counterexample.specs.declared.waiting.Waiting.{Waiting}
use Rattle.counterexample.specs.declared.counterparts.Counterpart.{Counterpart}
use Rattle.counterexample.specs.declared.counterparts.Counterpart.TheVariants as variant

abbrev pub counterpart_of : {A : Type 0} → Counterpart A → pure.Counterpart
counterpart_of (variant.Along states initials acceptances) = pure.Along (states_listed states.items) (map action_of initials.items) (offers_listed acceptances.items)
counterpart_of variant.TooManyStates = pure.TooManyStates

-- what is told of each step
abbrev pub origins_listed : {A : Type 0} → List (Option (Origin A)) → List (Option origin.Origin)
origins_listed all = map (λ o. option_map origin_of o) all

abbrev pub loop_of : {A : Type 0} → Looping A → pure.Loop
loop_of l = record { states = map process_of l.states.items; back = l.back; origins = origins_listed l.origins.items }

abbrev pub waiting_of : {A : Type 0} → Waiting A → pure.Waiting
waiting_of w = record { way = map side_of w.way.items; process = process_of w.process; initials = map action_of w.initials.items }

abbrev pub counterexample_of : {A : Type 0} → Counterexample A → pure.Counterexample
counterexample_of c = record {
  states = map process_of c.states.items;
  origins = origins_listed c.origins.items;
  counterpart = option_map counterpart_of c.counterpart;
  loop = option_map loop_of c.looping;
  waiting = map waiting_of c.waiting.items;
}

-- the last tau of the lasso, if there is one, leads to one of its states
abbrev pub ComesBack : {A : Type 0} → Option (Lasso A) → Type 0
ComesBack (Some lasso) = lasso.back < length lasso.states.items
ComesBack None = ⊤

-- the same of a loop that is told
abbrev pub GoesRound : {A : Type 0} → Option (Looping A) → Type 0
GoesRound (Some l) = l.back < length l.states.items
GoesRound None = ⊤

-- the loop is that of the lasso, each of whose taus has its origin told
abbrev pub IsLoopOf : {A : Type 0} → Script → Option (Lasso A) → Option (Looping A) → Type 0
IsLoopOf script (Some lasso) (Some l) = (t : Process) → IsLassoFrom script t lasso → pure.IsLoop script t (loop_of l)
IsLoopOf script None None = ⊤
IsLoopOf script lasso l = ⊥

-- the states of a replay, and where it ends in a divergence, a lasso from there
abbrev pub IsReplayed : {A : Type 0} → Script → Process → Violation → List Process → Option (Lasso A) → Type 0
IsReplayed script t v states lasso = (replay : IsReplay script t v states) × IsLassoFor script v.evidence replay.end lasso

-- a counterexample, or that no run ends so, or that a divergence has too many states at its end
abbrev pub TellsReplayed : {A : Type 0} → Script → Assertion → Violation → ℕ → ℕ → Replayed A → Type 0
TellsReplayed script a v most reach (replayed.Counterexample c) = pure.IsCounterexample script a v most (counterexample_of c)
TellsReplayed script a v most reach replayed.Nowhere = HasNoReplay script a.implementation v
TellsReplayed script a v most reach replayed.TooMany = pure.HasWideEnd script a v reach

-- the process of a specification, where there is one
abbrev pub specification_in : {A : Type 0} → Option (Bor (Term A)) → Option Process
specification_in t = option_map (λ s. process_of s.now) t

-- what is told of a violation by these sides
abbrev pub IsToldBy : {A : Type 0} → Sides A → Violation → ℕ → pure.Counterexample → Type 0
IsToldBy sides v n c = pure.IsToldBeside (script_of sides.script.now) (process_of sides.start.now) (script_of sides.other.now) (specification_in sides.specification) v n c
