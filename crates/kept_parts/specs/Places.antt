-- Steps by numbers, where events and parts are known by their places.
use Rattle.std.specs.Prelude.{◌≡◌, ◌<◌, ℕ, List, get_or, length, map, slice_get, Contains, Some}
use Rattle.theory_syntax.specs.Value.{Action, Event, Tau, Tick, Ev}
use Rattle.theory_syntax.specs.Process.{Process, Stop}
use Rattle.csp_rows.specs.declared.numbers.ActionId.{ActionId}
use Rattle.csp_rows.specs.declared.numbers.ActionId.TheVariants as by_number
use Rattle.csp_rows.specs.declared.step.PartStep.{PartStep}
use Rattle.csp_rows.specs.Numbering.{Numbering}
use Rattle.csp_numbers.specs.Numbers.{event_at}

-- the action of this number, where these are the events
abbrev pub action_in : List Event → ActionId → Action
action_in es by_number.Tau = Tau
action_in es by_number.Tick = Tick
action_in es (by_number.Event n) = Ev (event_at es n)

-- the part of this number, where these are the parts
abbrev pub part_in : List Process → ℕ → Process
part_in ps n = get_or ps n Stop

abbrev pub step_in : List Event → List Process → PartStep → Action × Process
step_in es ps s = (action_in es s.action, part_in ps s.target.0)

abbrev pub steps_in : List Event → List Process → List PartStep → List (Action × Process)
steps_in es ps ss = map (step_in es ps) ss

-- the action is none by an event but these
abbrev pub IsActionAmong : List Event → Action → Type 0
IsActionAmong es x = (e : Event) → x ≡ Ev e → Contains es e

-- The numbers of the parts are their places in the list.
abbrev pub NumbersParts : List Process → Numbering → Type 0
NumbersParts ps z = (n : ℕ) → n < length ps → slice_get ps n ≡ Some (z.part n)
