-- What some states can do.
use Rattle.std.specs.Prelude.{◌↔◌, List, Contains}
use Rattle.theory_syntax.specs.Value.{Action}
use Rattle.theory_syntax.specs.Process.{Process, Script}
use Rattle.theory_semantics.specs.Meaning.Transitions.{IsVisible}
use Rattle.theory_semantics.specs.Meaning.Offers.{CanDo, IsRising}

-- tick, or an event, that one of the states can do
abbrev pub IsInitialOfSome : Script → List Process → Action → Type 0
IsInitialOfSome script states x = IsVisible x × ((u : Process) × Contains states u × CanDo script u x)

-- all that the states can do: sorted, each once
pub record AreInitials (script : Script) (states : List Process) (xs : List Action) : Type 0 where
  pub rising : IsRising xs
  pub each : (x : Action) → Contains xs x ↔ IsInitialOfSome script states x

-- tick, or an event, that there is a step by
abbrev pub IsInitialBy : List (Action × Process) → Action → Type 0
IsInitialBy steps x = IsVisible x × ((u : Process) × Contains steps (x, u))
