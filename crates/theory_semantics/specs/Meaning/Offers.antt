-- What a term offers, and what it refuses (Roscoe's stable failures; here tick is a signal).
use Rattle.std.specs.Prelude.{Bool, true, not, ◌&&◌, IsTrue, IsFalse, ◌↔◌, List, [], ◌∷◌, ⊤}
use Rattle.std.specs.declared.cmp.Ordering.{Ordering}
use Rattle.std.specs.Ordering.{is_lt}
use Rattle.theory_syntax.specs.Value.{Value, value_cmp, Action, Tau, Tick, action_cmp, has_action}
use Rattle.theory_syntax.specs.Process.{Process, Script}
use Rattle.theory_semantics.specs.Meaning.Transitions.{RuleStep, IsNotStuck, Step}
use Rattle.theory_semantics.specs.Meaning.Runs.{IsAfter}

abbrev pub CanDo : Script → Process → Action → Type 0
CanDo script t x = (u : Process) × Step script t x u

-- not stuck, and no tau
pub record IsStable (script : Script) (t : Process) : Type 0 where
  pub not_stuck : IsNotStuck script t
  pub no_tau : (u : Process) → RuleStep script t Tau u → ⊥

-- a list that rises strictly by an order: sorted, with nothing twice
abbrev pub RisesBy : {X : Type 0} → (X → X → Ordering) → List X → Type 0
RisesBy cmp [] = ⊤
RisesBy cmp (x ∷ []) = ⊤
RisesBy cmp (x ∷ y ∷ ys) = IsTrue (is_lt (cmp x y)) × RisesBy cmp (y ∷ ys)

-- whether a list of values rises in their order
abbrev pub rises : List Value → Bool
rises [] = true
rises (v ∷ []) = true
rises (v ∷ w ∷ ws) = is_lt (value_cmp v w) && rises (w ∷ ws)

-- A finite set of actions is a list that rises in their order.
abbrev pub IsRising : List Action → Type 0
IsRising = RisesBy action_cmp

-- the set of all that t can do
pub record IsAllThat (script : Script) (t : Process) (xs : List Action) : Type 0 where
  pub rising : IsRising xs
  pub each : (x : Action) → IsTrue (has_action xs x) ↔ CanDo script t x

-- The acceptances of t: all that it can do, where it is stable, and tick alone, where it can tick, stable or not.
pub data IsAcceptance (script : Script) (t : Process) : List Action → Type 0 where
  of_stable : {xs : List Action} → IsStable script t → IsAllThat script t xs → IsAcceptance script t xs
  of_tick : CanDo script t Tick → IsAcceptance script t (Tick ∷ [])

-- A set that may be refused: finite, or all but a finite set. It is one of tick and events, and nothing hangs on tau.
pub data Refusal : Type 0 where
  These : (actions : List Action) → Refusal
  AllBut : (actions : List Action) → Refusal

abbrev pub in_refusal : Refusal → Action → Bool
in_refusal (These xs) x = has_action xs x
in_refusal (AllBut xs) x = not (has_action xs x)

-- t refuses a set where some acceptance has nothing in it
abbrev pub Refuses : Script → Process → Refusal → Type 0
Refuses script t refusal = (xs : List Action) × IsAcceptance script t xs × ((x : Action) → IsTrue (has_action xs x) → IsFalse (in_refusal refusal x))

-- a failure: a trace, and what a state after it refuses
abbrev pub IsFailure : Script → Process → List Action → Refusal → Type 0
IsFailure script t s refusal = (u : Process) × IsAfter script t s u × Refuses script u refusal
