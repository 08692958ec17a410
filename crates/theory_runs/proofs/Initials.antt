-- What some states can do, by their steps.
use Rattle.std.proofs.Common.{◌≡◌, ◌↔◌, List, [], Contains, refl, sym, subst}
use Rattle.theory_syntax.specs.Value.{Action}
use Rattle.theory_syntax.specs.Process.{Process, Script}
use Rattle.theory_semantics.specs.Meaning.Transitions.{IsVisible}
use Rattle.theory_semantics.specs.Meaning.Offers.{CanDo, IsRising}
use Rattle.theory_runs.specs.Layers.{AreSteps}
use Rattle.theory_runs.specs.Gathering.{Gathers}
use Rattle.theory_runs.specs.Initials.{AreInitials, IsInitialBy, IsInitialOfSome}
use Rattle.theory_runs.proofs.Firing.{can_do, does}
use Rattle.theory_runs.proofs.Gathering.{gathers_same, gathers_alone}

-- ---- the steps of one state

-- the step is by x, tick or an event
abbrev pub IsStepBy : Action × Process → Action → Type 0
IsStepBy s x = IsVisible x × (s.0 ≡ x)

pub step_alone : (s : Action × Process) → IsVisible s.0 → (x : Action) → (x ≡ s.0) ↔ IsStepBy s x
step_alone s visible x = (λ e. (subst IsVisible (sym e) visible, sym e), λ h. sym h.1)

pub initial_steps : (steps : List (Action × Process)) (x : Action) → ((s : Action × Process) × Contains steps s × IsStepBy s x) ↔ IsInitialBy steps x
initial_steps steps x = (
  λ h. (h.2.0, (h.0.1, subst (λ y. Contains steps (y, h.0.1)) h.2.1 h.1)),
  λ h. ((x, h.1.0), h.1.1, (h.0, refl)),
)

-- what the state can do
abbrev pub CanDoVisibly : Script → Process → Action → Type 0
CanDoVisibly script u x = IsVisible x × CanDo script u x

pub initial_state : (script : Script) (u : Process) (steps : List (Action × Process)) → AreSteps script u steps → (x : Action) → IsInitialBy steps x ↔ CanDoVisibly script u x
initial_state script u steps are x = (λ h. (h.0, does script u steps x are h.1), λ h. (h.0, can_do script u steps x are h.1))

-- ---- all states

of_states : (script : Script) (states : List Process) (x : Action) → ((u : Process) × Contains states u × CanDoVisibly script u x) ↔ IsInitialOfSome script states x
of_states script states x = (λ h. (h.2.0, (h.0, h.1, h.2.1)), λ h. (h.1.0, h.1.1, (h.0, h.1.2)))

pub initials_told : (script : Script) (states : List Process) (given xs : List Action) → Gathers [] (λ x. (u : Process) × Contains states u × CanDoVisibly script u x) given → ((x : Action) → Contains given x ↔ Contains xs x) → IsRising xs →
    AreInitials script states xs
initials_told script states given xs gathered stays rising = record {
  rising = rising;
  each = λ x.
      let is = gathers_alone (IsInitialOfSome script states) given (gathers_same (λ y. (u : Process) × Contains states u × CanDoVisibly script u y) (IsInitialOfSome script states) [] given (of_states script states) gathered) x in (
        λ c. is.0 ((stays x).1 c),
        λ h. (stays x).0 (is.1 h),
      );
}
