-- Terms that show evidence.
use Rattle.std.specs.Prelude.{◌≡◌, ◌≢◌, ℕ, List, [], Option, Some, None, slice_get, Contains}
use Rattle.theory_syntax.specs.Value.{Action}
use Rattle.theory_syntax.specs.Process.{Process, Omega, Script}
use Rattle.theory_semantics.specs.Meaning.Violations.{Evidence}
use Rattle.theory_runs.specs.States.{Shows}

-- one of the steps is by the action
abbrev pub HasStepBy : List (Action × Process) → Action → Type 0
HasStepBy steps x = (u : Process) × Contains steps (x, u)

-- it has not ended, and has no steps
abbrev pub IsDead : Process → List (Action × Process) → Type 0
IsDead t steps = (t ≢ Omega) × (steps ≡ [])

-- the term at the place shows the evidence, or where there is no place, none of the terms does
abbrev pub IsEndAt : Script → List Process → Evidence → Option ℕ → Type 0
IsEndAt script terms e (Some k) = (u : Process) × (slice_get terms k ≡ Some u) × Shows script u e
IsEndAt script terms e None = (u : Process) → Contains terms u → ¬ Shows script u e
