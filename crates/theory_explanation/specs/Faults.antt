-- Runs of a side to a state that is faulty or large, by which an assertion has no answer.
use Rattle.std.specs.Prelude.{◌≡◌, ℕ, List, [], ◌++◌, codes, Option, Some, None}
use Rattle.theory_syntax.specs.Value.{Action}
use Rattle.theory_syntax.specs.Process.{Process, Assertion, specification_of, ByTau, AtOnce, Script, Unfolding}
use Rattle.theory_syntax.specs.Readings.{by_tau}
use Rattle.theory_search.specs.Counting.{AreMoreThan}
use Rattle.theory_search.specs.Outcome.{Why, TooManyPairs, TooManyNodes, LargeTerm, Fault, NoMemory}
use Rattle.theory_origins.specs.Origin.{Origin}
use Rattle.theory_runs.specs.Stuck.{Hindrance, ByCause, BySize}
use Rattle.theory_runs.specs.Runs.{IsReached, IsStuckRun}
use Rattle.theory_runs.specs.Stops.{StopsSearch}
use Rattle.theory_spread_runs.specs.Spread.{Spreads}
use Rattle.theory_notation.specs.Names.{Names}
use Rattle.theory_explanation.specs.Counterexamples.{AreOriginsAlong}
use Rattle.theory_explanation.specs.Culprits.{blame_line, last_culprit}
use Rattle.theory_explanation.specs.Steps.{path_text}
use Rattle.theory_explanation.specs.Styles.{Style}

-- what a state of a side is stuck by, where there is no answer for that
abbrev pub hindrance : Why → Option Hindrance
hindrance TooManyPairs = None
hindrance TooManyNodes = None
hindrance LargeTerm = Some BySize
hindrance (Fault c) = Some (ByCause c)
hindrance NoMemory = None

-- a path of a side, with the states on its way, and where its steps come from
pub data SideRun : Type 0 where
  OfImplementation : (path : List Action) (states : List Process) (origins : List (Option Origin)) → SideRun
  OfSpecification : (path : List Action) (states : List Process) (origins : List (Option Origin)) → SideRun

-- the path leads from the process to a state that is stuck so, by these states and steps from there
pub record IsToldRun (script : Script) (t : Process) (h : Hindrance) (path : List Action) (states : List Process) (origins : List (Option Origin)) : Type 0 where
  pub run : IsStuckRun script t h path states
  pub told : AreOriginsAlong script path states origins

-- a run of the implementation that is told, along a trace of the specification, which is never stuck itself
pub record IsStopTold (script : Script) (a : Assertion) (h : Hindrance) (path : List Action) (states : List Process) (origins : List (Option Origin)) : Type 0 where
  pub stops : StopsSearch script a h path
  pub told : IsToldRun script a.implementation h path states origins

-- The run is one of the side that has no answer: of the specification where that comes to a state that is stuck so, and else
-- of the implementation. Where there is none, the specification has more than n states.
abbrev pub IsFound : Script → Assertion → Hindrance → ℕ → Option SideRun → Type 0
IsFound script a h n (Some (OfImplementation path states origins)) = IsStopTold script a h path states origins
IsFound script a h n (Some (OfSpecification path states origins)) = (spec : Process) × (specification_of a.property ≡ Some spec) × IsToldRun script spec h path states origins
IsFound script a h n None = (spec : Process) × (specification_of a.property ≡ Some spec) × AreMoreThan ◌≡◌ n (IsReached script spec)

-- ---- names at once

-- Names are unfolded at once, and the run of the process is spread: what is told is a run of the script as it is written.
pub record IsSpreadRun (script : Script) (t : Process) (path : List Action) (states : List Process) (longer : List Action) (more : List Process) (origins : List (Option Origin)) : Type 0 where
  pub at_once : script.unfolds ≡ AtOnce
  pub spread : Spreads (by_tau script) t path states longer more
  pub told : AreOriginsAlong (by_tau script) longer more origins

-- the run of a side of the assertion as it is asked is spread to one of that side as it is written
abbrev pub IsSpreadSide : Script → Assertion → SideRun → SideRun → Type 0
IsSpreadSide script a (OfImplementation path states others) (OfImplementation longer more origins) = IsSpreadRun script a.implementation path states longer more origins
IsSpreadSide script a (OfSpecification path states others) (OfSpecification longer more origins) =
    (spec : Process) × (specification_of a.property ≡ Some spec) × IsSpreadRun script spec path states longer more origins
IsSpreadSide script a run told = ⊥

-- ---- the text

-- that the last state is too large, or what a step leads to, as names are read
abbrev pub size_line : Unfolding → List ℕ
size_line ByTau = codes "  there it is too large, or what a step leads to\n"
size_line AtOnce = codes "  there it is too large, or what a step leads to, with its names unfolded\n"

-- what the last state of the run is stuck by: what is to blame there, or its size
abbrev pub stuck_line : Names → Script → Hindrance → List Process → List ℕ
stuck_line names script (ByCause c) states = blame_line names (last_culprit script states)
stuck_line names script BySize states = size_line script.unfolds

-- the side, its run state by state, and what is wrong at the end
abbrev pub fault_run_text : Style → Script → Hindrance → SideRun → List ℕ
fault_run_text style script h (OfImplementation path states origins) =
    codes "  the implementation comes there by\n" ++ (path_text style path states origins [] ++ stuck_line style.names script h states)
fault_run_text style script h (OfSpecification path states origins) =
    codes "  the specification comes there by\n" ++ (path_text style path states origins [] ++ stuck_line style.names script h states)

-- where there is no run, that the specification has too many states for one to be looked for
abbrev pub found_text : Style → Script → Hindrance → Option SideRun → List ℕ
found_text style script h (Some run) = fault_run_text style script h run
found_text style script h None = codes "  the specification comes there, and has too many states to tell how\n"
