-- Runs that lead to stuck terms.
use Rattle.std.specs.Prelude.{◌≡◌, ◌⊎◌, ℕ, List}
use Rattle.theory_syntax.specs.Value.{Action}
use Rattle.theory_syntax.specs.Process.{Process, Script}
use Rattle.theory_semantics.specs.Meaning.Runs.{Run}
use Rattle.theory_search.specs.Counting.{AreMoreThan}
use Rattle.theory_runs.specs.States.{Visits}
use Rattle.theory_runs.specs.Stuck.{Hindrance, IsStuckBy}

-- the path leads from t to a term that is stuck by this, and these are the states on its way
pub record IsStuckRun (script : Script) (t : Process) (h : Hindrance) (path : List Action) (states : List Process) : Type 0 where
  pub end : Process
  pub visits : Visits script t path states end
  pub stuck : IsStuckBy script end h

-- no run of t leads to a term that is stuck by this
abbrev pub HasNoStuckRun : Script → Process → Hindrance → Type 0
HasNoStuckRun script t h = (path : List Action) (u : Process) → Run script t path u → ¬ IsStuckBy script u h

-- a run of t leads to u
abbrev pub IsReached : Script → Process → Process → Type 0
IsReached script t u = (path : List Action) × Run script t path u

-- no run of t leads to a term that is stuck by this, or its runs lead to more than n terms
abbrev pub HasNoneWithin : Script → Process → Hindrance → ℕ → Type 0
HasNoneWithin script t h n = HasNoStuckRun script t h ⊎ AreMoreThan ◌≡◌ n (IsReached script t)
