-- In a list that rises a binary search tells whether a wanted one is there.
use Rattle.std.proofs.Common.{◌≡◌, ℕ, zero, suc, ◌≤◌, ◌<◌, Bool, true, false, Some, List, [], ◌∷◌, length, map, get_or, slice_get, Result, Ok, Err, refl, sym, ◌∙◌, ap, inl, inr, ◌⊎◌, ⊎_elim, arith}
use Rattle.std.specs.Result.{is_ok}
use Rattle.std.specs.declared.cmp.Ordering.{Ordering}
use Rattle.std.specs.declared.cmp.Ordering.TheVariants.{Equal}
use Rattle.std.specs.Cmp.{IsTotalOrder}
use Rattle.std.specs.Ordering.{is_eq, is_lt, ordering_index, ordering_reverse}
use Rattle.std.specs.List.{list_any}
use Rattle.std.specs.List.Sorted.{IsBinarySearchResult, IsNonDecreasingBy, IsSearchInRange, IsSortedBy}
use Rattle.std.proofs.lemmas.List.Sorted.{searchable_from_sorted}
use Rattle.std.proofs.lemmas.Option.{slice_get-get_or, slice_get_within, get_or_from_slice_get}
use Rattle.std.proofs.lemmas.Bool.{or_cases, or_left, or_right, cases_lt}
use Rattle.theory_syntax.proofs.Equalities.{is_eq-Equal}

module _ {K X : Type 0} {R : K → K → Ordering} (total : IsTotalOrder R) (key : X → K) (wanted : K) where
  abbrev ties : K → Bool
  ties k = is_eq (R wanted k)

  any_at : (xs : List X) (i : ℕ) (y : X) → slice_get xs i ≡ Some y → ties (key y) ≡ true → list_any ties (map key xs) ≡ true
  any_at [] i y at is = absurd (cc at)
  any_at (z ∷ zs) zero y at is = let f : Some z ≡ Some y = at in let e : z ≡ y = cc f in or_left (ties (key z)) (list_any ties (map key zs)) (ap (λ u. ties (key u)) e ∙ is)
  any_at (z ∷ zs) (suc i) y at is = or_right (ties (key z)) (list_any ties (map key zs)) (any_at zs i y at is)

  any_found : (xs : List X) → list_any ties (map key xs) ≡ true → (j : ℕ) × (y : X) × (slice_get xs j ≡ Some y) × (ties (key y) ≡ true)
  any_found [] h = absurd (cc h)
  any_found (z ∷ zs) h = ⊎_elim (λ e. (0, z, refl, e)) (λ e. let r = any_found zs e in (suc r.0, r.1, r.2, r.3)) (or_cases (ties (key z)) (list_any ties (map key zs)) h)

  pub told_by_halving : (xs : List X) (r : Result ℕ ℕ) → IsSortedBy (λ a b. is_lt (R (key a) (key b))) xs → IsSearchInRange r (length xs) → IsBinarySearchResult (λ y. R (key y) wanted) xs r → is_ok r ≡ list_any ties (map key xs)
  told_by_halving [] (Ok i) sorted within holds = absurd (omega (arith, within))
  told_by_halving (y ∷ ys) (Ok i) sorted within holds =
      let x = get_or (y ∷ ys) i y in
      sym (any_at (y ∷ ys) i x (slice_get-get_or (y ∷ ys) i y within) (ap is_eq (total.antisymm wanted (key x) ∙ ap ordering_reverse (holds y))))
  told_by_halving xs (Err i) sorted within parts = by_test (list_any ties (map key xs)) refl
    where
      searchable : IsNonDecreasingBy (λ y. ordering_index (R (key y) wanted)) xs
      searchable = searchable_from_sorted total key xs wanted sorted

      nowhere : (j : ℕ) (y : X) → slice_get xs j ≡ Some y → ties (key y) ≡ true → ⊥
      nowhere j y at is = by_side (cases_lt j i)
        where
          equal : R (key (get_or xs j y)) wanted ≡ Equal
          equal = ap (λ z. R (key z) wanted) (get_or_from_slice_get xs j y y at) ∙ total.antisymm (key y) wanted ∙ ap ordering_reverse (is_eq-Equal (R wanted (key y)) is)

          by_side : (j < i) ⊎ (i ≤ j) → ⊥
          by_side (inl under) = absurd (cc (sym equal ∙ (parts searchable).0 j y (omega arith) under))
          by_side (inr over) = absurd (cc (sym equal ∙ (parts searchable).1 j y over (slice_get_within xs j y at)))

      by_test : (b : Bool) → list_any ties (map key xs) ≡ b → false ≡ b
      by_test false is = refl
      by_test true is = let f = any_found xs is in absurd (nowhere f.0 f.1 f.2 f.3)
