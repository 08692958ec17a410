-- A loop over the neighbours of a list tells whether it rises.
use Rattle.std.proofs.Common.{◌≡◌, ℕ, zero, suc, ◌+◌, ◌-◌, ◌<◌, ◌≤◌, Bool, true, false, List, [], ◌∷◌, length, map, drop, get_or, refl, sym, ap, ◌∙◌, arith}
use Rattle.std.specs.Prelude.{◌&&◌}
use Rattle.std.specs.Ordering.{is_lt}
use Rattle.theory_syntax.specs.Value.{Value, value_cmp}
use Rattle.theory_semantics.specs.Meaning.Offers.{rises}

drop_back : {X : Type 0} (xs : List X) (place : ℕ) → 1 ≤ place → drop (place + 1 - 1) xs ≡ drop place xs
drop_back xs place from = let e : place + 1 - 1 ≡ place = omega arith in ap (λ (n : ℕ). drop n xs) e

module _ {X : Type 0} (view : X → Value) where
  one_more : (xs : List X) (i : ℕ) (x y d d' : X) → suc i < length xs → x ≡ get_or xs i d → y ≡ get_or xs (suc i) d'
      → rises (map view (drop i xs)) ≡ is_lt (value_cmp (view x) (view y)) && rises (map view (drop (suc i) xs))
  one_more [] i x y d d' within first second = absurd (omega arith)
  one_more (a ∷ []) i x y d d' within first second = absurd (omega arith)
  one_more (a ∷ b ∷ xs) zero x y d d' within first second = rw (first, second) refl
  one_more (a ∷ b ∷ xs) (suc i) x y d d' within first second = one_more (b ∷ xs) i x y d d' (omega arith) first second

  neighbours : (xs : List X) (place : ℕ) (x y d d' : X) → 1 ≤ place → place < length xs → x ≡ get_or xs (place - 1) d → y ≡ get_or xs place d'
      → rises (map view (drop (place - 1) xs)) ≡ is_lt (value_cmp (view x) (view y)) && rises (map view (drop place xs))
  neighbours xs zero x y d d' from within first second = absurd (omega arith)
  neighbours xs (suc i) x y d d' from within first second =
      let e : suc i - 1 ≡ i = omega arith in
      ap (λ (n : ℕ). rises (map view (drop n xs))) e ∙ one_more xs i x y d d' within (first ∙ ap (λ (n : ℕ). get_or xs n d) e) second

  pub falls : (xs : List X) (place : ℕ) (x y d d' : X) → 1 ≤ place → place < length xs → x ≡ get_or xs (place - 1) d → y ≡ get_or xs place d'
      → false ≡ is_lt (value_cmp (view x) (view y)) → rises (map view (drop (place - 1) xs)) ≡ rises (map view xs) → false ≡ rises (map view xs)
  falls xs place x y d d' from within first second less so_far =
      let one : rises (map view (drop (place - 1) xs)) ≡ false = neighbours xs place x y d d' from within first second ∙ ap (λ (b : Bool). b && rises (map view (drop place xs))) (sym less) in
      sym one ∙ so_far

  pub goes_on_rising : (xs : List X) (place : ℕ) (x y d d' : X) → 1 ≤ place → place < length xs → x ≡ get_or xs (place - 1) d → y ≡ get_or xs place d'
      → true ≡ is_lt (value_cmp (view x) (view y)) → rises (map view (drop (place - 1) xs)) ≡ rises (map view xs) → rises (map view (drop (place + 1 - 1) xs)) ≡ rises (map view xs)
  goes_on_rising xs place x y d d' from within first second less so_far =
      let one : rises (map view (drop (place - 1) xs)) ≡ rises (map view (drop place xs)) = neighbours xs place x y d d' from within first second ∙ ap (λ (b : Bool). b && rises (map view (drop place xs))) (sym less) in
      ap (λ ys. rises (map view ys)) (drop_back xs place from) ∙ sym one ∙ so_far

  last : (xs : List X) (i : ℕ) → length xs ≤ i + 1 → rises (map view (drop i xs)) ≡ true
  last [] zero past = refl
  last [] (suc i) past = refl
  last (a ∷ []) zero past = refl
  last (a ∷ b ∷ xs) zero past = absurd (omega arith)
  last (a ∷ xs) (suc i) past = last xs i (omega arith)

  pub rises_to_the_end : (xs : List X) (place : ℕ) → 1 ≤ place → length xs ≤ place → rises (map view (drop (place - 1) xs)) ≡ rises (map view xs) → true ≡ rises (map view xs)
  rises_to_the_end xs place from past so_far = sym (last xs (place - 1) (omega arith)) ∙ so_far
