-- Actions of the code that are no tau.
use Rattle.std.proofs.Common.{◌≡◌, refl}
use Rattle.theory_semantics.specs.Meaning.Transitions.{IsVisible}
use Rattle.csp_value.specs.Action.{action_of}
use Rattle.csp_value.specs.declared.action.Action.{Action}
use Rattle.csp_value.specs.declared.action.Action.TheVariants as variant

pub is_visible : {A : Type 0} (x : Action A) → (x ≡ variant.Tau → ⊥) → IsVisible (action_of x)
is_visible variant.Tau differs = absurd (differs refl)
is_visible variant.Tick differs = tt
is_visible (variant.Event e) differs = tt
