-- What numbers stand for.
use Rattle.std.specs.Prelude.{◌≡◌, ◌<◌, ◌↔◌, ⊤, ℕ, Bool, false, List, get_or, nat_eq}
use Rattle.theory_syntax.specs.Value.{Action, Event, Tau, Tick, Ev, event_eq}
use Rattle.theory_syntax.specs.Process.{Process, Omega}
use Rattle.csp_rows.specs.declared.numbers.ActionId.{ActionId}
use Rattle.csp_rows.specs.declared.numbers.ActionId.TheVariants as by_number

-- The events and the parts of these numbers, and how many events have one. Events of different numbers are different, and
-- the first part alone has ended.
pub record Numbering : Type 0 where
  pub event : ℕ → Event
  pub events : ℕ
  pub part : ℕ → Process
  pub apart : (n m : ℕ) → n < events → m < events → event_eq (event n) (event m) ≡ nat_eq n m
  pub first : (n : ℕ) → (part n ≡ Omega) ↔ (n ≡ 0)

abbrev pub action_at : Numbering → ActionId → Action
action_at z by_number.Tau = Tau
action_at z by_number.Tick = Tick
action_at z (by_number.Event n) = Ev (z.event n.0)

-- it is no event beyond those that have a number
abbrev pub IsNumbered : ℕ → ActionId → Type 0
IsNumbered events by_number.Tau = ⊤
IsNumbered events by_number.Tick = ⊤
IsNumbered events (by_number.Event n) = n.0 < events

-- each event that passes has its bit
abbrev pub AreBitsOf : Numbering → (Event → Bool) → List Bool → Type 0
AreBitsOf z test bits = (n : ℕ) → n < z.events → test (z.event n) ≡ get_or bits n false
