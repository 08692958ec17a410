-- Lists in the order of the first items that differ.
use Rattle.std.proofs.Common.{◌≡◌, ℕ, ◌<◌, ◌≤◌, zero, suc, List, [], ◌∷◌, ◌++◌, length, get_or, refl, sym, ap, ap₂, ◌∙◌, arith}
use Rattle.std.specs.declared.cmp.Ordering.{Ordering}
use Rattle.std.specs.declared.cmp.Ordering.TheVariants.{Less, Equal, Greater}
use Rattle.std.specs.Ordering.{ordering_then}
use Rattle.std.specs.Cmp.Lexicographic.{slice_cmp}

pub then_nothing : (r : Ordering) → ordering_then r Equal ≡ r
then_nothing Less = refl
then_nothing Equal = refl
then_nothing Greater = refl

pub then_in_turn : (a b c : Ordering) → ordering_then (ordering_then a b) c ≡ ordering_then a (ordering_then b c)
then_in_turn Less b c = refl
then_in_turn Equal b c = refl
then_in_turn Greater b c = refl

-- lists that are as long, with the same items
same_items : {X : Type 0} (d : X) (xs ys : List X) → length xs ≡ length ys → ((i : ℕ) → get_or xs i d ≡ get_or ys i d) → xs ≡ ys
same_items d [] [] long same = refl
same_items d [] (y ∷ ys) long same = absurd (omega (arith, long))
same_items d (x ∷ xs) [] long same = absurd (omega (arith, long))
same_items {X} d (x ∷ xs) (y ∷ ys) long same = ap₂ (λ (z : X) (zs : List X). z ∷ zs) (same 0) (same_items d xs ys (omega (arith, long)) (λ i. same (suc i)))

module _ {X : Type 0} (R : X → X → Ordering) where
  -- of lists that are put together, the first decide, and else the others
  pub both_slices : (xs us ys vs : List X) → length xs ≡ length us → slice_cmp R (xs ++ ys) (us ++ vs) ≡ ordering_then (slice_cmp R xs us) (slice_cmp R ys vs)
  both_slices [] [] ys vs long = refl
  both_slices [] (u ∷ us) ys vs long = absurd (omega (arith, long))
  both_slices (x ∷ xs) [] ys vs long = absurd (omega (arith, long))
  both_slices (x ∷ xs) (u ∷ us) ys vs long =
      ap (ordering_then (R x u)) (both_slices xs us ys vs (omega (arith, long))) ∙ sym (then_in_turn (R x u) (slice_cmp R xs us) (slice_cmp R ys vs))

  module _ (itself : (x : X) → R x x ≡ Equal) where
    pub slice_itself : (xs : List X) → slice_cmp R xs xs ≡ Equal
    slice_itself [] = refl
    slice_itself (x ∷ xs) = ap₂ ordering_then (itself x) (slice_itself xs)

    -- what is the same does not decide
    pub same_decide : (x y : X) (o : Ordering) → x ≡ y → ordering_then (R x y) o ≡ o
    same_decide x y o e = ap (λ (z : X). ordering_then (R x z) o) (sym e) ∙ ap (λ r. ordering_then r o) (itself x)

    -- Of lists that are the same before a place, the items there decide, and else what is behind: others that have that,
    -- and are the same up to the place.
    pub first_decide : (d : X) (h : ℕ) (xs ys us vs : List X) → h < length xs → length xs ≡ length ys → length xs ≡ length us → length xs ≡ length vs
        → ((i : ℕ) → i < h → get_or xs i d ≡ get_or ys i d) → ((i : ℕ) → i ≤ h → get_or us i d ≡ get_or vs i d)
        → ((i : ℕ) → h < i → get_or xs i d ≡ get_or us i d) → ((i : ℕ) → h < i → get_or ys i d ≡ get_or vs i d)
        → slice_cmp R xs ys ≡ ordering_then (R (get_or xs h d) (get_or ys h d)) (slice_cmp R us vs)
    first_decide d h [] ys us vs within e f g before upto left right = absurd (omega (arith, within))
    first_decide d h (x ∷ xs) [] us vs within e f g before upto left right = absurd (omega (arith, e))
    first_decide d h (x ∷ xs) (y ∷ ys) [] vs within e f g before upto left right = absurd (omega (arith, f))
    first_decide d h (x ∷ xs) (y ∷ ys) (u ∷ us) [] within e f g before upto left right = absurd (omega (arith, g))
    first_decide d zero (x ∷ xs) (y ∷ ys) (u ∷ us) (v ∷ vs) within e f g before upto left right =
        let first = same_items d xs us (omega (arith, f)) (λ i. left (suc i) (omega arith)) in
        let second = same_items d ys vs (omega (arith, e, g)) (λ i. right (suc i) (omega arith)) in
        ap (ordering_then (R x y)) (ap₂ (slice_cmp R) first second ∙ sym (same_decide u v (slice_cmp R us vs) (upto 0 (omega arith))))
    first_decide d (suc h) (x ∷ xs) (y ∷ ys) (u ∷ us) (v ∷ vs) within e f g before upto left right =
        same_decide x y (slice_cmp R xs ys) (before 0 (omega arith))
        ∙ first_decide d h xs ys us vs (omega (arith, within)) (omega (arith, e)) (omega (arith, f)) (omega (arith, g)) (λ i lt. before (suc i) (omega (arith, lt)))
        (λ i le. upto (suc i) (omega (arith, le))) (λ i lt. left (suc i) (omega (arith, lt))) (λ i lt. right (suc i) (omega (arith, lt)))
        ∙ ap (ordering_then (R (get_or xs h d) (get_or ys h d))) (sym (same_decide u v (slice_cmp R us vs) (upto 0 (omega arith))))
