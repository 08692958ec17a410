-- A violation with what leads to it: the states of the implementation, where each step comes from, what the specification
-- has beside them, and of a divergence the loop that goes on for ever.
use Rattle.std.specs.Prelude.{◌≡◌, ◌≢◌, ◌<◌, ℕ, suc, List, [], ◌∷◌, ◌++◌, length, replicate, slice_get, Option, Some, None, Contains, ⊤}
use Rattle.theory_syntax.specs.Value.{Action, Tau}
use Rattle.theory_syntax.specs.Process.{Process, Assertion, specification_of, AtOnce, Script}
use Rattle.theory_syntax.specs.Readings.{by_tau}
use Rattle.theory_semantics.specs.Meaning.Runs.{Run}
use Rattle.theory_semantics.specs.Meaning.Violations.{Evidence, ByEvent, ByOffers, ByDeadlock, ByDivergence, Violation}
use Rattle.theory_search.specs.Counting.{AreMoreThan}
use Rattle.theory_search.specs.Subsets.{IsByTaus}
use Rattle.theory_origins.specs.Origin.{Side, Origin, ComesFrom}
use Rattle.theory_origins.specs.Parts.{HasNoTau, IsPartAt, Placed, placed_parts}
use Rattle.theory_origins.specs.Telling.{Tells}
use Rattle.theory_runs.specs.Acceptances.{AreLeastAcceptances}
use Rattle.theory_runs.specs.Initials.{AreInitials}
use Rattle.theory_runs.specs.Lassos.{EachDiverges, IsLasso}
use Rattle.theory_runs.specs.States.{AreStatesAlong, AreSmall, AreMoreAlong, IsReplay}
use Rattle.theory_spread_runs.specs.Spread.{Spreads}
use Rattle.theory_explanation.specs.Lacking.{lacking}

-- What a specification has along a path: its states after the trace of each beginning, the initials of the last ones, and
-- the acceptances that they have at least. Or its states are too many.
pub data Counterpart : Type 0 where
  Along : (states : List (List Process)) (initials : List Action) (acceptances : List (List Action)) → Counterpart
  TooManyStates : Counterpart

-- The states that taus lead through from the end of a run on, that end at first, the place of the one that the last tau
-- leads back to, and the origin of each tau.
pub record Loop : Type 0 where
  pub states : List Process
  pub back : ℕ
  pub origins : List (Option Origin)

-- A part of the last state, with the way down to it, and all that it can do by itself.
pub record Waiting : Type 0 where
  pub way : List Side
  pub process : Process
  pub initials : List Action

-- the states of the implementation, the origin of each step, what the specification has along the path, if there is one,
-- the loop behind it, if there is one, and which parts wait at its end
pub record Counterexample : Type 0 where
  pub states : List Process
  pub origins : List (Option Origin)
  pub counterpart : Option Counterpart
  pub loop : Option Loop
  pub waiting : List Waiting

-- the states along the path are at most n each time, and the last ones have these initials and least acceptances
pub record HasAlong (script : Script) (spec : Process) (path : List Action) (n : ℕ) (states : List (List Process)) (initials : List Action) (acceptances : List (List Action)) : Type 0 where
  pub along : AreStatesAlong script spec path states
  pub small : AreSmall n states
  pub last : List Process
  pub at_end : slice_get states (length path) ≡ Some last
  pub initials_of : AreInitials script last initials
  pub acceptances_of : AreLeastAcceptances script last acceptances

-- what the specification has along the path, or that after one of its beginnings it has more than n states
abbrev pub IsCounterpart : Script → Process → List Action → ℕ → Counterpart → Type 0
IsCounterpart script spec path n (Along states initials acceptances) = HasAlong script spec path n states initials acceptances
IsCounterpart script spec path n TooManyStates = AreMoreAlong n script spec path

-- what a specification has, where there is one
abbrev pub IsCounterpartFor : Script → Option Process → List Action → ℕ → Option Counterpart → Type 0
IsCounterpartFor script (Some spec) path n (Some c) = IsCounterpart script spec path n c
IsCounterpartFor script (Some spec) path n None = ⊥
IsCounterpartFor script None path n (Some c) = ⊥
IsCounterpartFor script None path n None = ⊤

-- what is told of each step of the path, by the states before and behind it
abbrev pub AreOriginsAlong : Script → List Action → List Process → List (Option Origin) → Type 0
AreOriginsAlong script [] states [] = ⊤
AreOriginsAlong script [] states (o ∷ origins) = ⊥
AreOriginsAlong script (x ∷ path) (before ∷ t ∷ states) (o ∷ origins) = Tells script before x t o × AreOriginsAlong script path (t ∷ states) origins
AreOriginsAlong script (x ∷ path) (before ∷ t ∷ states) [] = ⊥
AreOriginsAlong script (x ∷ path) (before ∷ []) origins = ⊥
AreOriginsAlong script (x ∷ path) [] origins = ⊥

-- taus lead from t through the states and back to the one at the place, and this is told of each tau
pub record IsLoop (script : Script) (t : Process) (loop : Loop) : Type 0 where
  pub again : Process
  pub lasso : IsLasso script t loop.states loop.back again
  pub told : AreOriginsAlong script (replicate (length loop.states) Tau) (loop.states ++ again ∷ []) loop.origins

-- of a divergence there is a loop from its end on, and of nothing else
abbrev pub IsLoopFor : Script → Evidence → Process → Option Loop → Type 0
IsLoopFor script ByDivergence t (Some loop) = IsLoop script t loop
IsLoopFor script ByDivergence t None = ⊥
IsLoopFor script e t (Some loop) = ⊥
IsLoopFor script e t None = ⊤

-- it tells of the part
pub record IsWaiting (script : Script) (part : Placed) (w : Waiting) : Type 0 where
  pub way : w.way ≡ part.way
  pub process : w.process ≡ part.process
  pub initials : AreInitials script (part.process ∷ []) w.initials

-- they tell of the parts, one each
abbrev pub AreWaiting : Script → List Placed → List Waiting → Type 0
AreWaiting script [] [] = ⊤
AreWaiting script (part ∷ parts) (w ∷ ws) = IsWaiting script part w × AreWaiting script parts ws
AreWaiting script [] (w ∷ ws) = ⊥
AreWaiting script (part ∷ parts) [] = ⊥

-- where the end of a path waits, as it refuses or can do nothing, its parts are told
abbrev pub AreWaitingFor : Script → Evidence → Process → List Waiting → Type 0
AreWaitingFor script (ByOffers xs) t ws = AreWaiting script (placed_parts t) ws
AreWaitingFor script ByDeadlock t ws = AreWaiting script (placed_parts t) ws
AreWaitingFor script e t ws = ws ≡ []

-- What is told of the violation: the states of a replay of it from t by the script, where its steps come from, what the
-- specification, if there is one, has along its path, by a script in which names may be read otherwise, the loop at its end,
-- and which parts wait there.
pub record IsToldBeside (script : Script) (t : Process) (other : Script) (spec : Option Process) (v : Violation) (n : ℕ) (c : Counterexample) : Type 0 where
  pub replay : IsReplay script t v c.states
  pub origins : AreOriginsAlong script v.path c.states c.origins
  pub counterpart : IsCounterpartFor other spec v.path n c.counterpart
  pub loop : IsLoopFor script v.evidence replay.end c.loop
  pub waiting : AreWaitingFor script v.evidence replay.end c.waiting

-- the same by one script
abbrev pub IsCounterexample : Script → Assertion → Violation → ℕ → Counterexample → Type 0
IsCounterexample script a v n c = IsToldBeside script a.implementation script (specification_of a.property) v n c

-- a violation with another path
abbrev pub by_path : List Action → Violation → Violation
by_path path v = record { path = path; evidence = v.evidence }

-- Names are unfolded at once, and a replay of the violation is spread: what is told is a run from t, by the longer path, of the
-- script as it is written. The specification is told beside it as names are read.
pub record IsSpreadCounterexample (script : Script) (t : Process) (a : Assertion) (v : Violation) (n : ℕ) (longer : List Action) (c : Counterexample) : Type 0 where
  pub at_once : script.unfolds ≡ AtOnce
  pub states : List Process
  pub replay : IsReplay script a.implementation v states
  pub spread : Spreads (by_tau script) t v.path states longer c.states
  pub told : IsToldBeside (by_tau script) t script (specification_of a.property) (by_path longer v) n c

-- More than n states are behind the path of a divergence, by taus, so that its loop is not looked for.
pub record HasWideEnd (script : Script) (a : Assertion) (v : Violation) (n : ℕ) : Type 0 where
  pub diverges : v.evidence ≡ ByDivergence
  pub many : AreMoreThan ◌≡◌ n (IsByTaus script (λ t. Run script a.implementation v.path t))

-- the step by x from the state at the place to the next one comes from the origin that is told
abbrev pub HasOriginAt : Script → List Process → List (Option Origin) → ℕ → Action → Type 0
HasOriginAt script states origins i x =
    (s t : Process) × (o : Origin) × (slice_get states i ≡ Some s) × (slice_get states (suc i) ≡ Some t) × (slice_get origins i ≡ Some (Some o)) × ComesFrom script s x t o

-- each tau of the loop leads on from a state of it, and comes from the origin that is told
abbrev pub HasLoopOrigins : Script → Loop → Type 0
HasLoopOrigins script loop = (again : Process) × (slice_get loop.states loop.back ≡ Some again) × ((i : ℕ) → i < length loop.states → HasOriginAt script (loop.states ++ again ∷ []) loop.origins i Tau)

-- each state of the loop diverges, the first one is the end of a run by the path, and it is told where its taus come from
pub record TellsDivergence (script : Script) (t : Process) (path : List Action) (loop : Loop) : Type 0 where
  pub end : Process
  pub run : Run script t path end
  pub first : slice_get loop.states 0 ≡ Some end
  pub each : EachDiverges script loop.states
  pub told : HasLoopOrigins script loop

-- the part stands at its way in the state, and these are all the events, and tick, that it can do; and there is no tau
pub record WaitsThere (script : Script) (end : Process) (w : Waiting) : Type 0 where
  pub at : IsPartAt script end w.way w.process
  pub initials : AreInitials script (w.process ∷ []) w.initials
  pub no_tau : HasNoTau script end → HasNoTau script w.process

-- the event is none of the initials, or each of the acceptances has something that is not offered
abbrev pub ShowsLack : Evidence → Counterpart → Type 0
ShowsLack (ByEvent x) (Along states initials acceptances) = ¬ Contains initials x
ShowsLack (ByOffers xs) (Along states initials acceptances) = (ys : List Action) → Contains acceptances ys → lacking xs ys ≢ []
ShowsLack e c = ⊤
