-- Looking for a value in a list, and what is kept of a list that rises.
use Rattle.std.proofs.Common.{◌≡◌, ap₂, ◌||◌, ◌⊎◌, inl, inr, ℕ, zero, suc, ◌≤◌, ◌<◌, List, [], ◌∷◌, length, map, filter, get_or, refl, sym, ◌∙◌, ap, subst, Bool, true, false, Some, slice_get, Result, Ok, Err, arith}
use Rattle.std.specs.Result.{is_ok}
use Rattle.std.specs.declared.cmp.Ordering.TheVariants.{Less, Equal}
use Rattle.std.specs.Ordering.{is_eq, is_lt, ordering_index, ordering_reverse}
use Rattle.std.specs.List.{AllByRecursion, list_any}
use Rattle.std.specs.List.Sorted.{IsStrictlySortedBy, IsBinarySearchResult, IsNonDecreasingBy, IsSearchInRange}
use Rattle.std.proofs.lemmas.List.Kept.{IsStrictlySortedBy-filter}
use Rattle.std.proofs.lemmas.List.Sorted.{searchable_from_sorted}
use Rattle.std.proofs.lemmas.Option.{slice_get-get_or, slice_get_within, get_or_from_slice_get}
use Rattle.std.proofs.lemmas.Bool.{cases_lt}
use Rattle.theory_syntax.specs.Value.{Value, value_cmp, value_eq, has_value}
use Rattle.theory_syntax.proofs.Equalities.{value_same, value_refl, is_lt-Less, is_eq-reverse}
use Rattle.theory_syntax.proofs.Orders.{value_total}
use Rattle.theory_syntax.proofs.Places.{get_map}
use Rattle.csp_value.proofs.Sets.{Rises, has_stands, stands_has}
use Rattle.csp_value.proofs.Sorting.{order, rise_from_sorted}

module _ {X : Type 0} (meaning : X → Value) where
  below : (x k : X) → order meaning x k ≡ Less → (ys : List X) → Rises (map meaning (k ∷ ys)) → AllByRecursion (λ y. order meaning x y ≡ Less) ys
  below x k less [] rises = tt
  below x k less (y ∷ ys) rises = let here = value_total.trans (meaning x) (meaning k) (meaning y) less (is_lt-Less (order meaning k y) rises.0) in (here, below x y here ys rises.1)

  pub sorted_from_rise : (xs : List X) → Rises (map meaning xs) → IsStrictlySortedBy (order meaning) xs
  unfolding IsStrictlySortedBy
  sorted_from_rise [] rises = tt
  sorted_from_rise (x ∷ []) rises = (tt, tt)
  sorted_from_rise (x ∷ y ∷ ys) rises = let less = is_lt-Less (order meaning x y) rises.0 in ((less, below x y less ys rises.1), sorted_from_rise (y ∷ ys) rises.1)

  -- what is kept of a list that rises still rises
  pub filter_rises : (test : X → Bool) (xs : List X) → Rises (map meaning xs) → Rises (map meaning (filter test xs))
  filter_rises test xs rises = rise_from_sorted meaning (filter test xs) (IsStrictlySortedBy-filter (order meaning) test xs (sorted_from_rise xs rises))

  to_map : (xs : List X) (i : ℕ) (x : X) → slice_get xs i ≡ Some x → slice_get (map meaning xs) i ≡ Some (meaning x)
  to_map [] i x at = absurd (cc at)
  to_map (y ∷ ys) zero x at = let f : Some y ≡ Some x = at in let e : y ≡ x = cc f in ap (λ u. Some (meaning u)) e
  to_map (y ∷ ys) (suc i) x at = to_map ys i x at

  found : (xs : List X) (x y : X) (i : ℕ) → slice_get xs i ≡ Some y → order meaning y x ≡ Equal → has_value (map meaning xs) (meaning x) ≡ true
  found xs x y i at ties = subst (λ v. has_value (map meaning xs) v ≡ true) (value_same (meaning y) (meaning x) ties) (stands_has (map meaning xs) (meaning y) i (to_map xs i y at))

  -- what a binary search finds is there
  pub found_there : (xs : List X) (x : X) (r : Result ℕ ℕ) → IsSearchInRange r (length xs) → IsBinarySearchResult (λ y. order meaning y x) xs r → is_ok r ≡ true → has_value (map meaning xs) (meaning x) ≡ true
  found_there xs x (Ok i) within holds e = found xs x (get_or xs i x) i (slice_get-get_or xs i x within) (holds x)
  found_there xs x (Err i) within holds e = absurd (cc e)

  less_not_back : (x y : X) → is_lt (order meaning x y) ≡ true → is_lt (order meaning y x) ≡ false
  less_not_back x y less = ap is_lt (value_total.antisymm (meaning y) (meaning x)) ∙ ap (λ r. is_lt (ordering_reverse r)) (is_lt-Less (order meaning x y) less)

  never_falls : (xs : List X) → Rises (map meaning xs) → (k : ℕ) (d : X) → suc k < length xs → is_lt (order meaning (get_or xs (suc k) d) (get_or xs k d)) ≡ false
  never_falls [] rises k d within = absurd (omega (arith, within))
  never_falls (x ∷ []) rises k d within = absurd (omega (arith, within))
  never_falls (x ∷ y ∷ ys) rises zero d within = less_not_back x y rises.0
  never_falls (x ∷ y ∷ ys) rises (suc k) d within = never_falls (y ∷ ys) rises.1 k d (omega (arith, within))

  -- what a binary search misses in a list that rises is not there
  missed_nowhere : (xs : List X) (x : X) (r : Result ℕ ℕ) → Rises (map meaning xs) → IsBinarySearchResult (λ y. order meaning y x) xs r → is_ok r ≡ false → has_value (map meaning xs) (meaning x) ≡ false
  missed_nowhere xs x (Ok i) rises holds e = absurd (cc e)
  missed_nowhere xs x (Err i) rises parts e = either (has_value (map meaning xs) (meaning x)) refl
    where
      searchable : IsNonDecreasingBy (λ y. ordering_index (order meaning y x)) xs
      searchable = searchable_from_sorted value_total meaning xs (meaning x) (λ k d low high. subst (λ n. is_lt (order meaning (get_or xs n d) (get_or xs k d)) ≡ false) {x = suc k} (omega arith) (never_falls xs rises k d (omega (arith, high))))

      nowhere : (j : ℕ) (y : X) → slice_get xs j ≡ Some y → meaning y ≡ meaning x → ⊥
      nowhere j y at same = by (cases_lt j i)
        where
          equal : order meaning (get_or xs j y) x ≡ Equal
          equal = ap (λ z. order meaning z x) (get_or_from_slice_get xs j y y at) ∙ ap (λ v. value_cmp v (meaning x)) same ∙ value_refl (meaning x)

          by : (j < i) ⊎ (i ≤ j) → ⊥
          by (inl under) = absurd (cc (sym equal ∙ (parts searchable).0 j y (omega arith) under))
          by (inr over) = absurd (cc (sym equal ∙ (parts searchable).1 j y over (slice_get_within xs j y at)))

      either : (b : Bool) → has_value (map meaning xs) (meaning x) ≡ b → b ≡ false
      either false is = refl
      either true is =
          let at = has_stands (map meaning xs) (meaning x) is in
          let found = get_map meaning xs at.0 (meaning x) at.1 in
          absurd (nowhere at.0 found.0 found.1 found.2)

  -- in a list that rises a binary search tells what is there
  pub search_tells : (xs : List X) (x : X) (r : Result ℕ ℕ) → Rises (map meaning xs) → IsSearchInRange r (length xs) → IsBinarySearchResult (λ y. order meaning y x) xs r → is_ok r ≡ has_value (map meaning xs) (meaning x)
  search_tells xs x (Ok i) rises within holds = sym (found_there xs x (Ok i) within holds refl)
  search_tells xs x (Err i) rises within parts = sym (missed_nowhere xs x (Err i) rises parts refl)

  turned : (v w : Value) → value_eq w v ≡ value_eq v w
  turned v w = ap is_eq (value_total.antisymm w v) ∙ is_eq-reverse (value_cmp v w)

  -- a test of each for sameness
  pub any_has : (same : X → X → Bool) → ((x y : X) → same x y ≡ value_eq (meaning x) (meaning y)) → (xs : List X) (x : X) → list_any (λ y. same y x) xs ≡ has_value (map meaning xs) (meaning x)
  any_has same tells [] x = refl
  any_has same tells (y ∷ ys) x = ap₂ ◌||◌ (tells y x ∙ turned (meaning x) (meaning y)) (any_has same tells ys x)
