-- What is known of an outcome that is told.
use Rattle.std.specs.Prelude.{◌≡◌, ℕ, List, Option, Some, map, option_map, ⊤}
use Rattle.std.specs.Borrow.{Bor}
use Rattle.theory_syntax.specs.Value as pure
use Rattle.theory_syntax.specs.Process.{Assertion, Script}
use Rattle.theory_semantics.specs.Meaning.Violations.{IsViolation}
use Rattle.theory_search.specs.Outcome.{Outcome, Holds, Fails, Unknown, Denied}
use Rattle.theory_runs.specs.Stops.{IsStopFor}
use Rattle.theory_runs.specs.Stuck.{Hindrance}
use Rattle.theory_explanation.specs.Faults.{hindrance}
use Rattle.csp_value.specs.Action.{action_of}
use Rattle.csp_value.specs.declared.action.Action.{Action}

-- where it shows a violation, that is one of the assertion without its `not`
abbrev pub HasViolation : Script → Assertion → Outcome → Type 0
HasViolation script a Holds = ⊤
HasViolation script a (Fails v) = IsViolation script a v
HasViolation script a (Unknown why) = ⊤
HasViolation script a Denied = ⊤

-- a path that is lent, if there is one
abbrev pub stop_in : {A : Type 0} → Option (Bor (List (Action A))) → Option (List pure.Action)
stop_in stop = option_map (λ path. map action_of path.now) stop

-- what stopped a search, or that none was begun, within some nodes
abbrev pub IsStop : Script → Assertion → Hindrance → Option (List pure.Action) → Type 0
IsStop script a h stop = (n : ℕ) × IsStopFor script a n h stop

-- so it is where the outcome is that a state has no answer
abbrev pub HasStop : Script → Assertion → Outcome → Option (List pure.Action) → Type 0
HasStop script a (Unknown why) stop = (h : Hindrance) → hindrance why ≡ Some h → IsStop script a h stop
HasStop script a o stop = ⊤
