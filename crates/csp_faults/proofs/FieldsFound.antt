-- What is to blame in fields, by the first one and what is bound behind it.
use Rattle.std.proofs.Common.{◌≡◌, ℕ, zero, suc, List, [], ◌∷◌, length, drop, map, Option, Some, refl, sym, ◌∙◌, ap}
use Rattle.theory_syntax.specs.Value.{Value}
use Rattle.theory_syntax.specs.Process.{Field}
use Rattle.theory_syntax.specs.Types.{Types}
use Rattle.theory_semantics.specs.Meaning.Substitution.{Bindings}
use Rattle.theory_faults.proofs.Events.{first_mapped}
use Rattle.theory_faults.specs.Culprit.{Culprit, Misfit, first_found}
use Rattle.theory_faults.specs.Events.{fields_culprit}
use Rattle.csp_faults.proofs.Found.{Rests}

pub maps_join : {X Y Z : Type 0} (f : Y → Z) (g : X → Y) (xs : List X) → map f (map g xs) ≡ map (λ x. f (g x)) xs
maps_join f g [] = refl
maps_join f g (x ∷ xs) = ap (λ zs. f (g x) ∷ zs) (maps_join f g xs)

dropped : {X Y : Type 0} (f : X → Y) (i : ℕ) (xs : List X) → drop i (map f xs) ≡ map f (drop i xs)
dropped f zero xs = refl
dropped f (suc i) [] = refl
dropped f (suc i) (x ∷ xs) = dropped f i xs

-- what is found in a list that is made of another one
module _ {X Y : Type 0} (look : Y → Option Culprit) (f : X → Y) (xs : List X) (all : List Y) (are : map f xs ≡ all) where
  pub found_by : first_found look all ≡ first_found (λ x. look (f x)) xs
  found_by = ap (first_found look) (sym are) ∙ first_mapped look f xs

  pub left_by : (i : ℕ) → first_found look (drop i all) ≡ first_found (λ x. look (f x)) (drop i xs)
  left_by i = ap (λ ys. first_found look (drop i ys)) (sym are) ∙ ap (first_found look) (dropped f i xs) ∙ first_mapped look f (drop i xs)

  pub rests_by : (i : ℕ) → Rests look all i → Rests (λ x. look (f x)) xs i
  rests_by i rests = sym (left_by i) ∙ rests ∙ found_by

module _ (types : Types) (c i : ℕ) (bs : Bindings) where
  -- more sets than fields, or more fields than sets
  pub ended_fields : (fs : List Field) (sets : List (List Value)) → fs ≡ [] → (length sets ≡ 0 → ⊥) → Some Misfit ≡ fields_culprit types c i bs fs sets
  ended_fields [] [] is some = absurd (some refl)
  ended_fields [] (set ∷ sets) is some = refl
  ended_fields (f ∷ fs) sets is some = absurd (cc is)

  pub ended_sets : (fs : List Field) (sets : List (List Value)) → (length fs ≡ 0 → ⊥) → sets ≡ [] → Some Misfit ≡ fields_culprit types c i bs fs sets
  ended_sets [] [] some is = absurd (some refl)
  ended_sets (f ∷ fs) [] some is = refl
  ended_sets fs (set ∷ sets) some is = absurd (cc is)

pub nothing_in : {X : Type 0} (xs : List X) → length xs ≡ 0 → xs ≡ []
nothing_in [] none = refl
nothing_in (x ∷ xs) none = absurd (cc none)
