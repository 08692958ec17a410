-- A list put in order rises, and has the members that it had.
use Rattle.std.proofs.Common.{◌≡◌, ◌↔◌, ◌⊎◌, inl, inr, ⊎_elim, List, [], ◌∷◌, refl, sym, ap, subst, ◌∙◌, Contains}
use Rattle.std.specs.Prelude.{IsTrue, ⊤}
use Rattle.std.specs.declared.cmp.Ordering.{Ordering}
use Rattle.std.specs.declared.cmp.Ordering.TheVariants.{Less, Equal, Greater}
use Rattle.std.specs.Ordering.{is_lt, ordering_reverse}
use Rattle.std.specs.Cmp.{IsTotalOrder}
use Rattle.theory_syntax.proofs.Members.{contains_cases, contains_here, contains_none, contains_there}
use Rattle.theory_semantics.specs.Meaning.Offers.{RisesBy}
use Rattle.theory_semantics.proofs.Rising.{Contains-from_stands, rising_same, stands_from_Contains}
use Rattle.theory_rows.specs.Arranged.{arranged, inserted, placed}

module _ {X : Type 0} (R : X → X → Ordering) (total : IsTotalOrder R) (ties : (x y : X) → R x y ≡ Equal → x ≡ y) where
  -- what the list begins with, if it begins
  abbrev FirstAbove : X → List X → Type 0
  FirstAbove x [] = ⊤
  FirstAbove x (y ∷ ys) = IsTrue (is_lt (R x y))

  rise_from : (x : X) (xs : List X) → FirstAbove x xs → RisesBy R xs → RisesBy R (x ∷ xs)
  rise_from x [] above rise = tt
  rise_from x (y ∷ ys) above rise = (above, rise)

  first_above : (x : X) (xs : List X) → RisesBy R (x ∷ xs) → FirstAbove x xs
  first_above x [] rise = tt
  first_above x (y ∷ ys) rise = rise.0

  behind : (x : X) (xs : List X) → RisesBy R (x ∷ xs) → RisesBy R xs
  behind x [] rise = tt
  behind x (y ∷ ys) rise = rise.1

  greater : (x y : X) → R x y ≡ Greater → IsTrue (is_lt (R y x))
  greater x y e = ap is_lt (total.antisymm y x ∙ ap ordering_reverse e)

  -- what is inserted comes behind what both it and the list come behind
  still_above : (z x : X) (ys : List X) → IsTrue (is_lt (R z x)) → FirstAbove z ys → FirstAbove z (inserted R x ys)
  still_above z x [] below above = below
  still_above z x (y ∷ ys) below above = by_order (R x y) (inserted R x ys)
    where
      by_order : (o : Ordering) (more : List X) → FirstAbove z (placed o x y ys more)
      by_order Less more = below
      by_order Equal more = above
      by_order Greater more = above

  pub inserted_rises : (x : X) (ys : List X) → RisesBy R ys → RisesBy R (inserted R x ys)
  inserted_rises x [] rise = tt
  inserted_rises x (y ∷ ys) rise = by_order (R x y) refl (inserted_rises x ys (behind y ys rise))
    where
      by_order : (o : Ordering) → R x y ≡ o → RisesBy R (inserted R x ys) → RisesBy R (placed o x y ys (inserted R x ys))
      by_order Less e more = (ap is_lt e, rise)
      by_order Equal e more = rise
      by_order Greater e more = rise_from y (inserted R x ys) (still_above y x ys (greater x y e) (first_above y ys rise)) more

  pub arranged_rises : (xs : List X) → RisesBy R (arranged R xs)
  arranged_rises [] = tt
  arranged_rises (x ∷ xs) = inserted_rises x (arranged R xs) (arranged_rises xs)

  inserted_has : (x : X) (ys : List X) (z : X) → Contains (inserted R x ys) z → (z ≡ x) ⊎ Contains ys z
  inserted_has x [] z has = ⊎_elim (λ e. inl (sym e)) (λ more. absurd (contains_none z more)) (contains_cases x [] z has)
  inserted_has x (y ∷ ys) z has = by_order (R x y) (inserted_has x ys z) has
    where
      by_order : (o : Ordering) → (Contains (inserted R x ys) z → (z ≡ x) ⊎ Contains ys z) → Contains (placed o x y ys (inserted R x ys)) z → (z ≡ x) ⊎ Contains (y ∷ ys) z
      by_order Less more h = ⊎_elim (λ e. inl (sym e)) (λ k. inr k) (contains_cases x (y ∷ ys) z h)
      by_order Equal more h = inr h
      by_order Greater more h =
          ⊎_elim (λ e. inr (subst (λ w. Contains (y ∷ ys) w) e (contains_here y ys))) (λ k. ⊎_elim (λ e. inl e) (λ j. inr (contains_there y ys z j)) (more k)) (contains_cases y (inserted R x ys) z h)

  has_inserted : (x : X) (ys : List X) (z : X) → (z ≡ x) ⊎ Contains ys z → Contains (inserted R x ys) z
  has_inserted x [] z (inl e) = subst (λ w. Contains (x ∷ []) w) (sym e) (contains_here x [])
  has_inserted x [] z (inr has) = absurd (contains_none z has)
  has_inserted x (y ∷ ys) z h = by_order (R x y) refl (has_inserted x ys z) h
    where
      by_order : (o : Ordering) → R x y ≡ o → ((z ≡ x) ⊎ Contains ys z → Contains (inserted R x ys) z) → (z ≡ x) ⊎ Contains (y ∷ ys) z → Contains (placed o x y ys (inserted R x ys)) z
      by_order Less e more (inl f) = subst (λ w. Contains (x ∷ y ∷ ys) w) (sym f) (contains_here x (y ∷ ys))
      by_order Less e more (inr k) = contains_there x (y ∷ ys) z k
      by_order Equal e more (inl f) = subst (λ w. Contains (y ∷ ys) w) (sym (f ∙ ties x y e)) (contains_here y ys)
      by_order Equal e more (inr k) = k
      by_order Greater e more (inl f) = contains_there y (inserted R x ys) z (more (inl f))
      by_order Greater e more (inr k) =
          ⊎_elim (λ f. subst (λ w. Contains (y ∷ inserted R x ys) w) f (contains_here y (inserted R x ys))) (λ j. contains_there y (inserted R x ys) z (more (inr j))) (contains_cases y ys z k)

  arranged_has : (xs : List X) (z : X) → Contains (arranged R xs) z → Contains xs z
  arranged_has [] z has = has
  arranged_has (x ∷ xs) z has =
      ⊎_elim (λ e. subst (λ w. Contains (x ∷ xs) w) (sym e) (contains_here x xs)) (λ k. contains_there x xs z (arranged_has xs z k)) (inserted_has x (arranged R xs) z has)

  has_arranged : (xs : List X) (z : X) → Contains xs z → Contains (arranged R xs) z
  has_arranged [] z has = has
  has_arranged (x ∷ xs) z has = has_inserted x (arranged R xs) z (⊎_elim (λ e. inl (sym e)) (λ k. inr (has_arranged xs z k)) (contains_cases x xs z has))

  pub arranged_members : (xs : List X) (z : X) → Contains (arranged R xs) z ↔ Contains xs z
  arranged_members xs z = (arranged_has xs z, has_arranged xs z)

  -- lists that rise and have the same members are the same
  pub risen_same : (xs ys : List X) → RisesBy R xs → RisesBy R ys → ((z : X) → Contains xs z → Contains ys z) → ((z : X) → Contains ys z → Contains xs z) → xs ≡ ys
  risen_same xs ys first second to back =
      rising_same R total xs ys first second (λ z at. stands_from_Contains ys z (to z (Contains-from_stands xs z at))) (λ z at. stands_from_Contains xs z (back z (Contains-from_stands ys z at)))
