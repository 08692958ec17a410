-- Steps by the order of their actions.
use Rattle.std.specs.Prelude.{◌≡◌, ⊤, Bool, true, false, List, [], ◌∷◌}
use Rattle.std.specs.declared.cmp.Ordering.TheVariants.{Greater}
use Rattle.csp_rows.specs.declared.numbers.ActionId.{ActionId}
use Rattle.csp_rows.specs.declared.numbers.ActionId.TheVariants.{Tau, Tick, Event}
use Rattle.csp_rows.specs.declared.step.Step.{Step}
use Rattle.csp_rows.specs.Numbers.{number_cmp}

-- no step is followed by one of a lesser action
abbrev pub NeverFall : List Step → Type 0
NeverFall [] = ⊤
NeverFall (s ∷ []) = ⊤
NeverFall (s ∷ t ∷ ts) = (number_cmp s.action t.action ≡ Greater → ⊥) × NeverFall (t ∷ ts)

abbrev pub is_tau : ActionId → Bool
is_tau Tau = true
is_tau Tick = false
is_tau (Event e) = false

-- whether the first step is a tau
abbrev pub is_tau_first : List Step → Bool
is_tau_first [] = false
is_tau_first (s ∷ ss) = is_tau s.action

-- whether this action is a tick, or where it is a tau, what follows it begins by one
abbrev pub is_tick_before : ActionId → Bool → Bool
is_tick_before Tau rest = rest
is_tick_before Tick rest = true
is_tick_before (Event e) rest = false

-- whether the first of these steps that is no tau is a tick
abbrev pub is_tick_next : List Step → Bool
is_tick_next [] = false
is_tick_next (s ∷ ss) = is_tick_before s.action (is_tick_next ss)
