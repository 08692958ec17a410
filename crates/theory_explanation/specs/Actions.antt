-- The texts of actions.
use Rattle.std.specs.Prelude.{ℕ, nat_eq, Bool, ◌||◌, if◌then◌else◌, List, [], ◌∷◌, ◌++◌, codes}
use Rattle.std.specs.Cmp.Lexicographic.{pointwise}
use Rattle.theory_syntax.specs.Value.{Event, Action, Tau, Tick, Ev, to_values}
use Rattle.theory_search.specs.Printing.{name_at}
use Rattle.theory_notation.specs.Names.{Names}
use Rattle.theory_notation.specs.Values.{values_behind}

-- the channel, with `.` and the value for each field
abbrev pub event_text : Names → Event → List ℕ
event_text names e = name_at names.channels e.channel ++ values_behind names (codes ".") (to_values e.fields)

-- whether a channel of this name reads as an action that is no event
abbrev pub is_action_word : List ℕ → Bool
is_action_word name = pointwise nat_eq name (codes "tau") || pointwise nat_eq name (codes "tick")

-- what tells an event of such a channel from the action
abbrev pub event_mark : List ℕ → List ℕ
event_mark name = if is_action_word name then codes "event " else []

abbrev pub action_text : Names → Action → List ℕ
action_text names Tau = codes "tau"
action_text names Tick = codes "tick"
action_text names (Ev e) = event_mark (name_at names.channels e.channel) ++ event_text names e

-- actions with `,` before each
abbrev pub actions_behind : Names → List Action → List ℕ
actions_behind names [] = []
actions_behind names (x ∷ xs) = codes "," ++ (action_text names x ++ actions_behind names xs)

-- actions with `,` between
abbrev pub actions_text : Names → List Action → List ℕ
actions_text names [] = []
actions_text names (x ∷ xs) = action_text names x ++ actions_behind names xs
