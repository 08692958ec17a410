-- `==` of actions is that of the definitions.
use Rattle.std.proofs.Common.{◌≡◌, Bool, true, subst}
use Rattle.std.specs.Cmp.{both_ways}
use Rattle.theory_syntax.specs.Value.{Action, action_eq}
use Rattle.theory_semantics.proofs.Offering.{action_refl, action_same}
use Rattle.csp_value.proofs.Sameness.{Tells}

pub eq_of : {X : Type 0} {test : X → X → Bool} {meaning : X → Action} → Tells test meaning → (x y : X) → action_eq (meaning x) (meaning y) ≡ test x y
eq_of {X} {test} {meaning} told x y =
    both_ways (action_eq (meaning x) (meaning y)) (test x y)
    (λ e. told.complete x y (action_same (meaning x) (meaning y) e))
    (λ e. subst (λ w. action_eq (meaning x) w ≡ true) (told.sound x y e) (action_refl (meaning x)))
