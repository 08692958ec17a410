-- Bindings that a name hides.
use Rattle.std.proofs.Common.{◌≡◌, ℕ, nat_eq, cond, not, filter, Bool, true, false, List, [], ◌∷◌, refl, ap}
use Rattle.theory_semantics.specs.Meaning.Substitution.{Bindings, without}
use Rattle.csp_value.specs.Value.{value_of}
use Rattle.csp_expression.specs.declared.substitution.Binding.{Binding}
use Rattle.csp_expression.specs.Bindings.{bindings_of}

one_hidden : {A : Type 0} (is : Bool) (b : Binding A) (kept : List (Binding A)) (others : Bindings) → bindings_of kept ≡ others → bindings_of (cond (not is) (b ∷ kept) kept) ≡ cond is others ((b.name.0, value_of b.value.now) ∷ others)
one_hidden true b kept others same = same
one_hidden false b kept others same = ap (λ bs. (b.name.0, value_of b.value.now) ∷ bs) same

-- keeping what has another name hides the name
pub hidden : {A : Type 0} (n : ℕ) (bs : List (Binding A)) → bindings_of (filter (λ b. not (nat_eq b.name.0 n)) bs) ≡ without n (bindings_of bs)
hidden n [] = refl
hidden n (b ∷ bs) = one_hidden (nat_eq b.name.0 n) b (filter (λ b. not (nat_eq b.name.0 n)) bs) (without n (bindings_of bs)) (hidden n bs)
