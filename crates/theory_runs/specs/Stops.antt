-- Which side of an assertion has no answer.
use Rattle.std.specs.Prelude.{◌≡◌, ◌≤◌, ℕ, List, Option, Some, None, slice_get, take, ⊤}
use Rattle.theory_syntax.specs.Value.{Action}
use Rattle.theory_syntax.specs.Process.{Process, Assertion, specification_of, Script}
use Rattle.theory_semantics.specs.Meaning.Runs.{Run, trace, IsKnown, NoneStuck}
use Rattle.theory_search.specs.Counting.{AreMoreThan}
use Rattle.theory_search.specs.Answer.{HasNoForm}
use Rattle.theory_search.specs.Outcome.{Why, LargeTerm, Fault}
use Rattle.theory_search.specs.Search.{Mark, Faulty, Large, Row, EachRow, SomeRow, Search, Stopped, recorded_path}
use Rattle.theory_runs.specs.Stuck.{Hindrance, ByCause, BySize, IsStuckBy}
use Rattle.theory_runs.specs.Runs.{HasNoneWithin, IsReached}

-- why there is no answer, and the mark of a row, where a term is stuck by this
abbrev pub why_of : Hindrance → Why
why_of (ByCause c) = Fault c
why_of BySize = LargeTerm

abbrev pub mark_of : Hindrance → Mark
mark_of (ByCause c) = Faulty c
mark_of BySize = Large

-- no run of the specification leads to a stuck term, if there is one
abbrev pub NeverSticks : Script → Option Process → Type 0
NeverSticks script (Some spec) = NoneStuck script spec
NeverSticks script None = ⊤

-- The path of the implementation leads to a term that is stuck by this, and its trace is one of the specification, if there
-- is one. The specification itself is never stuck.
pub record StopsSearch (script : Script) (a : Assertion) (h : Hindrance) (path : List Action) : Type 0 where
  pub end : Process
  pub run : Run script a.implementation path end
  pub known : IsKnown script (specification_of a.property) (trace path)
  pub stuck : IsStuckBy script end h
  pub free : NeverSticks script (specification_of a.property)

-- What is known where there is no answer, by what it was that stopped: a path of the implementation, or, with none, that
-- the specification has no normal form within n nodes.
abbrev pub IsStopFor : Script → Assertion → ℕ → Hindrance → Option (List Action) → Type 0
IsStopFor script a n h (Some path) = StopsSearch script a h path
IsStopFor script a n h None = HasNoForm script (specification_of a.property) n (why_of h)

-- each beginning of the path is along a trace of the specification, if there is one
abbrev pub IsKnownAlong : Script → Assertion → List Action → Type 0
IsKnownAlong script a path = (i : ℕ) → IsKnown script (specification_of a.property) (trace (take i path))

-- ---- what a search has

-- the row is stuck by this, and none of lesser rank is
pub record IsFirstStop (s : Search) (h : Hindrance) (r : Row) : Type 0 where
  pub place : ℕ
  pub stands : slice_get s.rows place ≡ Some r
  pub marked : r.mark ≡ mark_of h
  pub first : EachRow s.rows (λ q. q.mark ≡ mark_of h → r.rank ≤ q.rank)

-- the recorded path of a row with such a mark stops the search
abbrev pub MarkedRowsStop : Script → Search → Type 0
MarkedRowsStop script s = (h : Hindrance) → EachRow s.rows (λ r. r.mark ≡ mark_of h → StopsSearch script s.assertion h (recorded_path s.rows r))

-- a search that is stopped so has such a row
abbrev pub StoppedHaveRow : Search → Type 0
StoppedHaveRow s = (h : Hindrance) → s.verdict ≡ Stopped (why_of h) → SomeRow s.rows (λ r. r.mark ≡ mark_of h)

-- all first ones have one path
abbrev pub FirstStopsAreOne : Search → Type 0
FirstStopsAreOne s = (h : Hindrance) (r q : Row) → IsFirstStop s h r → IsFirstStop s h q → recorded_path s.rows r ≡ recorded_path s.rows q

-- ---- the specification alone

-- Where the specification has no normal form for this, and none of its terms is found to be stuck so among n, they are more.
abbrev pub NoFormHasMany : Script → Process → Type 0
NoFormHasMany script spec = (n m : ℕ) (h : Hindrance) → HasNoForm script (Some spec) m (why_of h) → HasNoneWithin script spec h n → AreMoreThan ◌≡◌ n (IsReached script spec)

-- and where a run of it leads to a stuck term, the search of the implementation is never stopped so
abbrev pub OneSideStops : Script → Assertion → Type 0
OneSideStops script a =
    (spec : Process) (h k : Hindrance) (path : List Action) → specification_of a.property ≡ Some spec → StopsSearch script a h path → (other : List Action) (u : Process) →
    Run script spec other u → ¬ IsStuckBy script u k
