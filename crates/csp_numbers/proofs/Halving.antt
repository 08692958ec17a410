-- The place of an event in a list that rises, by halving.
use Rattle.std.proofs.Common.{◌≡◌, ℕ, zero, suc, ◌<◌, true, false, List, [], ◌∷◌, length, map, get_or, Some, slice_get, Err, ◌∙◌, ap, subst, Contains, arith}
use Rattle.std.specs.List.{HoldsAt, list_any}
use Rattle.std.specs.List.Sorted.{IsBinarySearchResult, IsSearchInRange, IsSortedBy}
use Rattle.std.specs.Ordering.{is_eq, is_lt, ordering_reverse}
use Rattle.std.specs.declared.cmp.Ordering.TheVariants.{Equal}
use Rattle.std.proofs.lemmas.Bool.{or_left, or_right}
use Rattle.std.proofs.lemmas.Option.{slice_get-get_or}
use Rattle.theory_syntax.specs.Value.{Event, event_cmp, event_eq}
use Rattle.theory_syntax.proofs.Equalities.{event_refl, event_same, is_lt-Less}
use Rattle.theory_syntax.proofs.Orders.{event_total}
use Rattle.theory_syntax.proofs.Places.{get_some}
use Rattle.theory_semantics.specs.Meaning.Offers.{RisesBy}
use Rattle.csp_events.proofs.Halving.{told_by_halving}

any_event : (es : List Event) (e : Event) → Contains es e → list_any (event_eq e) es ≡ true
any_event [] e (k, h, is) = absurd (omega arith)
any_event (f ∷ fs) e (zero, h, is) = or_left (event_eq e f) (list_any (event_eq e) fs) (ap (event_eq e) is ∙ event_refl e)
any_event (f ∷ fs) e (suc k, h, is) = or_right (event_eq e f) (list_any (event_eq e) fs) (any_event fs e (k, omega arith, is))

module _ {X : Type 0} (key : X → Event) where
  not_back : (x y : X) → is_lt (event_cmp (key x) (key y)) ≡ true → is_lt (event_cmp (key y) (key x)) ≡ false
  not_back x y less = ap is_lt (event_total.antisymm (key y) (key x)) ∙ ap (λ r. is_lt (ordering_reverse r)) (is_lt-Less (event_cmp (key x) (key y)) less)

  never_falls : (xs : List X) → RisesBy event_cmp (map key xs) → (k : ℕ) (d : X) → suc k < length xs → is_lt (event_cmp (key (get_or xs (suc k) d)) (key (get_or xs k d))) ≡ false
  never_falls [] rise k d within = absurd (omega (arith, within))
  never_falls (x ∷ []) rise k d within = absurd (omega (arith, within))
  never_falls (x ∷ y ∷ ys) rise zero d within = not_back x y rise.0
  never_falls (x ∷ y ∷ ys) rise (suc k) d within = never_falls (y ∷ ys) rise.1 k d (omega (arith, within))

  sorted : (xs : List X) → RisesBy event_cmp (map key xs) → IsSortedBy (λ x y. is_lt (event_cmp (key x) (key y))) xs
  sorted xs rise k d low high = subst (λ n. is_lt (event_cmp (key (get_or xs n d)) (key (get_or xs k d))) ≡ false) {x = suc k} (omega arith) (never_falls xs rise k d (omega (arith, high)))

  -- what is found stands there
  pub found_there : (wanted : Event) (xs : List X) (i : ℕ) → i < length xs → HoldsAt (λ y. event_cmp (key y) wanted ≡ Equal) xs i → slice_get (map key xs) i ≡ Some wanted
  found_there wanted [] i within holds = absurd (omega (arith, within))
  found_there wanted (y ∷ ys) i within holds =
      let x = get_or (y ∷ ys) i y in
      get_some key (y ∷ ys) i x (slice_get-get_or (y ∷ ys) i y within) ∙ ap Some (event_same (key x) wanted (ap is_eq (holds y)))

  -- what is missed stands nowhere
  pub missed_nowhere : (wanted : Event) (xs : List X) (i : ℕ) → RisesBy event_cmp (map key xs) → IsSearchInRange (Err i) (length xs) → IsBinarySearchResult (λ y. event_cmp (key y) wanted) xs (Err i) → Contains (map key xs) wanted → ⊥
  missed_nowhere wanted xs i rise within holds has =
      let none : false ≡ list_any (event_eq wanted) (map key xs) = told_by_halving event_total key wanted xs (Err i) (sorted xs rise) within holds in
      cc (none, any_event (map key xs) wanted has)
