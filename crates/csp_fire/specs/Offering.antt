-- The acceptances of a term by its steps, which are sorted, each once.
use Rattle.std.specs.Prelude.{◌≡◌, ◌↔◌, Contains, Bool, true, false, ◌&&◌, ◌||◌, nat_eq, cond, List, [], ◌∷◌, ◌++◌, length, map, Option, Some, None}
use Rattle.std.specs.List.{list_any}
use Rattle.theory_syntax.specs.Value.{Action, Tau, Tick, action_eq}
use Rattle.theory_syntax.specs.Process.{Process}
use Rattle.theory_semantics.specs.Meaning.Expansions.{Form, Fired, FiredLarge, step_cmp}
use Rattle.theory_semantics.specs.Meaning.Offers.{RisesBy}
use Rattle.theory_semantics.specs.Meaning.Stepping.{Steps}
use Rattle.csp_steps.specs.Answering.{Answered, all_within}

abbrev pub is_tau : Action → Bool
is_tau Tau = true
is_tau _ = false

abbrev pub is_tick : Action → Bool
is_tick Tick = true
is_tick _ = false

-- whether there is a step by tau, or by tick
abbrev pub has_tau : Steps → Bool
has_tau ss = list_any (λ s. is_tau s.0) ss

abbrev pub has_tick : Steps → Bool
has_tick ss = list_any (λ s. is_tick s.0) ss

-- the list without an action that is the last one again
abbrev pub behind_action : Action → List Action → List Action
behind_action x [] = []
behind_action x (y ∷ ys) = cond (action_eq x y) (behind_action x ys) (y ∷ behind_action y ys)

-- each action of sorted steps once
abbrev pub actions_once : List Action → List Action
actions_once [] = []
actions_once (x ∷ xs) = x ∷ behind_action x xs

abbrev pub actions_of : Steps → List Action
actions_of ss = actions_once (map (λ s. s.0) ss)

-- tick alone, where there is a step by it
abbrev pub tick_offer : Steps → List (List Action)
tick_offer ss = cond (has_tick ss) ((Tick ∷ []) ∷ []) []

-- all actions, where there is no step by tau, unless they are tick alone
abbrev pub stable_offer : Steps → List (List Action)
stable_offer ss = cond (has_tau ss || (has_tick ss && nat_eq (length (actions_of ss)) 1)) [] (actions_of ss ∷ [])

abbrev pub offers_of : Steps → List (List Action)
offers_of ss = tick_offer ss ++ stable_offer ss

-- The form has the same steps, by action and then by target, each once, and the acceptances by them.
pub record IsFormBySteps (ss : Steps) (form : Form) : Type 0 where
  pub sorted : Steps
  pub is : form ≡ Fired sorted (offers_of sorted)
  pub rise : RisesBy step_cmp sorted
  pub each : (s : Action × Process) → Contains ss s ↔ Contains sorted s

-- The form is by the steps that are answered, or large, where one leads past the limits.
abbrev pub IsFormWithin : Option Steps → Form → Type 0
IsFormWithin (Some ss) form = IsFormBySteps ss form
IsFormWithin None form = form ≡ FiredLarge

abbrev pub IsFormByAnswer : List Answered → Form → Type 0
IsFormByAnswer steps form = IsFormWithin (all_within steps) form
