-- Sorting a list of values and keeping each once gives the sorted values of the definitions.
use Rattle.std.proofs.Common.{◌≡◌, List, [], ◌∷◌, map, refl, sym, ◌∙◌, ap, subst, Bool, true, false, ◌||◌}
use Rattle.std.specs.declared.cmp.Ordering.{Ordering}
use Rattle.std.specs.Ordering.{is_lt, is_eq}
use Rattle.std.specs.List.{dedup, dedup_from}
use Rattle.std.specs.List.Sorted.{IsPermutation, IsSorted, IsStrictlySortedBy}
use Rattle.std.specs.Cmp.{on_total, both_ways}
use Rattle.std.proofs.lemmas.List.Kept.{IsStrictlySortedBy-dedup}
use Rattle.std.proofs.lemmas.List.Sorted.{Contains-permutation, IsPermutation-map, IsPermutation-sym}
use Rattle.theory_syntax.specs.Value.{Value, value_cmp, value_eq, has_value, sorted_values}
use Rattle.theory_syntax.proofs.Orders.{value_total}
use Rattle.theory_semantics.proofs.Rising.{stands_from_Contains, Contains-from_stands}
use Rattle.csp_value.proofs.Sets.{Rises, has_stands, stands_has, rising_alike, sorted_rise, sorted_have, or_again}

moved_to : (vs ws : List Value) (z : Value) → IsPermutation vs ws → has_value vs z ≡ true → has_value ws z ≡ true
moved_to vs ws z moved has =
    let at = stands_from_Contains ws z (Contains-permutation vs ws z moved (Contains-from_stands vs z (has_stands vs z has))) in stands_has ws z at.0 at.1

-- what is moved about is still there
pub moved_have : (vs ws : List Value) (z : Value) → IsPermutation vs ws → has_value vs z ≡ has_value ws z
moved_have vs ws z moved = both_ways (has_value vs z) (has_value ws z) (moved_to vs ws z moved) (moved_to ws vs z (IsPermutation-sym vs ws moved))

-- the order in which values are given is nothing to the sorted values
pub moved_sorted : (vs ws : List Value) → IsPermutation vs ws → sorted_values vs ≡ sorted_values ws
moved_sorted vs ws moved =
    rising_alike (sorted_values vs) (sorted_values ws) (sorted_rise vs) (sorted_rise ws) (λ z. sorted_have vs z ∙ moved_have vs ws z moved ∙ sym (sorted_have ws z))

-- things in the order of the values that they stand for
module _ {X : Type 0} (meaning : X → Value) where
  abbrev pub order : X → X → Ordering
  order x y = value_cmp (meaning x) (meaning y)

  pub rise_from_sorted : (xs : List X) → IsStrictlySortedBy order xs → Rises (map meaning xs)
  unfolding IsStrictlySortedBy
  rise_from_sorted [] sorted = tt
  rise_from_sorted (x ∷ []) sorted = tt
  rise_from_sorted (x ∷ y ∷ ys) sorted = (ap is_lt sorted.0.0, rise_from_sorted (y ∷ ys) sorted.1)

-- things of which each is kept once, by what they stand for
module _ {X : Type 0} (meaning : X → Value) (same : X → X → Bool) (tells : (x y : X) → same x y ≡ true → meaning x ≡ meaning y) where
  kept_have : (k : X) (xs : List X) (z : Value) → has_value (map meaning (dedup_from same k xs)) z ≡ value_eq z (meaning k) || has_value (map meaning xs) z
  kept_have k [] z = refl
  kept_have k (x ∷ xs) z = by_test (same x k) refl (kept_have k xs z) (kept_have x xs z)
    where
      by_test : (b : Bool) → same x k ≡ b → has_value (map meaning (dedup_from same k xs)) z ≡ value_eq z (meaning k) || has_value (map meaning xs) z →
          has_value (map meaning (dedup_from same x xs)) z ≡ value_eq z (meaning x) || has_value (map meaning xs) z →
          has_value (map meaning (dedup_from same k (x ∷ xs))) z ≡ value_eq z (meaning k) || (value_eq z (meaning x) || has_value (map meaning xs) z)
      by_test true is one other = rw is (one ∙ subst (λ v. value_eq z (meaning k) || has_value (map meaning xs) z ≡ value_eq z (meaning k) || (value_eq z v || has_value (map meaning xs) z)) (sym (tells x k is)) (or_again (value_eq z (meaning k)) (has_value (map meaning xs) z)))
      by_test false is one other = rw is (ap (λ b. value_eq z (meaning k) || b) other)

  -- what is kept once is still there
  pub once_have : (xs : List X) (z : Value) → has_value (map meaning (dedup same xs)) z ≡ has_value (map meaning xs) z
  once_have [] z = refl
  once_have (x ∷ xs) z = kept_have x xs z

  -- a sorted list, each member kept once, rises
  pub once_rise : ((x y : X) → same x y ≡ is_eq (order meaning x y)) → (xs : List X) → IsSorted (order meaning) xs → Rises (map meaning (dedup same xs))
  once_rise ties xs sorted = rise_from_sorted meaning (dedup same xs) (IsStrictlySortedBy-dedup (on_total meaning value_total) ties xs sorted)

  -- and is the sorted values
  pub once_sorted : ((x y : X) → same x y ≡ is_eq (order meaning x y)) → (given xs : List X) → IsPermutation given xs → IsSorted (order meaning) xs → map meaning (dedup same xs) ≡ sorted_values (map meaning given)
  once_sorted ties given xs moved sorted =
      rising_alike (map meaning (dedup same xs)) (sorted_values (map meaning given)) (once_rise ties xs sorted) (sorted_rise (map meaning given))
      (λ z. once_have xs z ∙ sym (moved_have (map meaning given) (map meaning xs) z (IsPermutation-map meaning given xs moved)) ∙ sym (sorted_have (map meaning given) z))
