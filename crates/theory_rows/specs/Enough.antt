-- What is told of a term that is not stuck: its steps, in whatever order and however often, and some of its acceptances.
use Rattle.std.specs.Prelude.{◌↔◌, Bool, cond, List, [], ◌∷◌, ◌++◌, map, Contains}
use Rattle.theory_syntax.specs.Value.{Action, Tau, Tick, action_cmp, has_action}
use Rattle.theory_syntax.specs.Process.{Process, Script}
use Rattle.theory_semantics.specs.Meaning.Offers.{IsAcceptance}
use Rattle.theory_semantics.specs.Meaning.Stepping.{Steps}
use Rattle.theory_semantics.specs.Meaning.Transitions.{IsNotStuck, RuleStep}
use Rattle.theory_search.specs.Acceptances.{AreEnough}
use Rattle.theory_rows.specs.Arranged.{arranged}

-- The steps are exactly those of the term, and within each of its acceptances lies one of the offers, which are acceptances.
pub record IsEnough (script : Script) (t : Process) (steps : Steps) (offers : List (List Action)) : Type 0 where
  pub not_stuck : IsNotStuck script t
  pub each_step : (x : Action) (u : Process) → RuleStep script t x u ↔ Contains steps (x, u)
  pub accepted : AreEnough (IsAcceptance script t) offers

-- ---- acceptances by the actions of steps

-- the actions that steps are by, in order, each once
abbrev pub actions_of : Steps → List Action
actions_of steps = arranged action_cmp (map (λ s. s.0) steps)

-- tick alone, where it is one of the actions; and all, where tau is none of them
abbrev pub tick_alone : Bool → List (List Action)
tick_alone has = cond has ((Tick ∷ []) ∷ []) []

abbrev pub all_without : Bool → List Action → List (List Action)
all_without has all = cond has [] (all ∷ [])

abbrev pub offers_by : List Action → List (List Action)
offers_by all = tick_alone (has_action all Tick) ++ all_without (has_action all Tau) all

-- of these the one that lies within the others
abbrev pub least_offers_by : List Action → List (List Action)
least_offers_by all = cond (has_action all Tick) ((Tick ∷ []) ∷ []) (all_without (has_action all Tau) all)
