-- Lists that are sorted and keep each member once, by what the members stand for.
use Rattle.std.proofs.Common.{◌≡◌, ◌↔◌, Bool, true, List, [], ◌∷◌, map, Contains, refl, sym, ◌∙◌, ap, subst}
use Rattle.std.specs.declared.cmp.Ordering.{Ordering}
use Rattle.std.specs.declared.cmp.Ordering.TheVariants.{Equal}
use Rattle.std.specs.Cmp.{IsTotalOrder, IsEquivalence, both_ways}
use Rattle.std.specs.List.{dedup}
use Rattle.std.specs.List.Sorted.{IsPermutation, IsSorted, IsStrictlySortedBy}
use Rattle.std.specs.Ordering.{is_eq, is_lt}
use Rattle.std.proofs.lemmas.Cmp.{on_total, tied_itself}
use Rattle.std.proofs.lemmas.List.Kept.{Any-dedup, Contains-from_dedup, IsStrictlySortedBy-dedup}
use Rattle.std.proofs.lemmas.List.Sorted.{Contains-permutation, IsPermutation-sym}
use Rattle.theory_syntax.proofs.Equalities.{is_eq-Equal}
use Rattle.theory_syntax.proofs.Places.{get_map, get_some}
use Rattle.theory_semantics.specs.Meaning.Offers.{RisesBy}
use Rattle.theory_semantics.proofs.Rising.{stands_from_Contains, Contains-from_stands}

-- a member of a list stands for a member
stands_for : {X Y : Type 0} (meaning : X → Y) (xs : List X) (x : X) → Contains xs x → Contains (map meaning xs) (meaning x)
stands_for meaning xs x c = let at = stands_from_Contains xs x c in Contains-from_stands (map meaning xs) (meaning x) (at.0, get_some meaning xs at.0 x at.1)

-- and each of those is stood for by one
stood_for : {X Y : Type 0} (meaning : X → Y) (xs : List X) (y : Y) → Contains (map meaning xs) y → (x : X) × Contains xs x × (meaning x ≡ y)
stood_for meaning xs y c =
    let at = stands_from_Contains (map meaning xs) y c in
    let h = get_map meaning xs at.0 y at.1 in
    (h.0, Contains-from_stands xs h.0 (at.0, h.1), h.2)

module _ {X Y : Type 0} (E : X → X → Bool) (meaning : X → Y) (sound : (x y : X) → E x y ≡ true → meaning x ≡ meaning y) (complete : (x y : X) → meaning x ≡ meaning y → E x y ≡ true) where
  equal_is_equivalence : IsEquivalence E
  equal_is_equivalence = record {
    refl = λ x. complete x x refl;
    symm = λ x y. both_ways (E x y) (E y x) (λ e. complete y x (sym (sound x y e))) (λ e. complete x y (sym (sound y x e)));
    congr = λ x y z e. both_ways (E x z) (E y z) (λ f. complete y z (sym (sound x y e) ∙ sound x z f)) (λ f. complete x z (sound x y e ∙ sound y z f));
  }

  -- nothing comes and nothing is lost
  pub once_stays : (given sorted : List X) → IsPermutation given sorted → (y : Y) → Contains (map meaning given) y ↔ Contains (map meaning (dedup E sorted)) y
  once_stays given sorted moved y = (to, from)
    where
      to : Contains (map meaning given) y → Contains (map meaning (dedup E sorted)) y
      to c =
          let h = stood_for meaning given y c in
          let k = Any-dedup equal_is_equivalence sorted h.0 (Contains-permutation given sorted h.0 moved h.1) in
          subst (Contains (map meaning (dedup E sorted))) (sym (sound h.0 k.1 k.4) ∙ h.2) (stands_for meaning (dedup E sorted) k.1 (k.0, k.2, k.3))

      from : Contains (map meaning (dedup E sorted)) y → Contains (map meaning given) y
      from c =
          let h = stood_for meaning (dedup E sorted) y c in
          subst (Contains (map meaning given)) h.2
          (stands_for meaning given h.0 (Contains-permutation sorted given h.0 (IsPermutation-sym given sorted moved) (Contains-from_dedup E sorted h.0 h.1)))

  -- and it rises
  module _ (R : X → X → Ordering) (S : Y → Y → Ordering) (ordered : (x y : X) → R x y ≡ S (meaning x) (meaning y)) (total : IsTotalOrder S) (ties : (y z : Y) → S y z ≡ Equal → y ≡ z) where
    order_total : IsTotalOrder R
    order_total = subst IsTotalOrder (λ i x y. sym (ordered x y) i) (on_total meaning total)

    equal_ties : (x y : X) → E x y ≡ is_eq (R x y)
    equal_ties x y =
        both_ways (E x y) (is_eq (R x y)) (λ e. ap is_eq (ordered x y ∙ ap (S (meaning x)) (sym (sound x y e)) ∙ tied_itself total (meaning x)))
        (λ e. complete x y (ties (meaning x) (meaning y) (sym (ordered x y) ∙ is_eq-Equal (R x y) e)))

    rises : (xs : List X) → IsStrictlySortedBy R xs → RisesBy S (map meaning xs)
    unfolding IsStrictlySortedBy
    rises [] sorted = tt
    rises (x ∷ []) sorted = tt
    rises (x ∷ y ∷ ys) sorted = (ap is_lt (sym (ordered x y) ∙ sorted.0.0), rises (y ∷ ys) sorted.1)

    pub once_rises : (sorted : List X) → IsSorted R sorted → RisesBy S (map meaning (dedup E sorted))
    once_rises sorted in_order = rises (dedup E sorted) (IsStrictlySortedBy-dedup order_total equal_ties sorted in_order)
