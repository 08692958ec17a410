-- Events and actions have the order of their numbers.
use Rattle.std.proofs.Common.{◌≡◌, ℕ, ◌<◌, ◌≤◌, zero, suc, List, [], ◌∷◌, length, map, Some, slice_get, refl, sym, ap, ap₂, ◌∙◌, ◌⊎◌, inl, inr, arith}
use Rattle.std.proofs.lemmas.Bool.{cases_lt}
use Rattle.std.proofs.lemmas.Cmp.{tied_itself}
use Rattle.std.specs.Cmp.{nat_cmp_is}
use Rattle.std.specs.Cmp.Lexicographic.{slice_cmp}
use Rattle.std.specs.List.{AllByRecursion}
use Rattle.std.specs.Ordering.{nat_cmp, ordering_reverse, ordering_then}
use Rattle.std.specs.declared.cmp.Ordering.TheVariants.{Less, Equal, Greater}
use Rattle.theory_syntax.specs.Value.{Event, action_cmp, event_cmp}
use Rattle.theory_syntax.proofs.Orders.{event_total}
use Rattle.theory_semantics.specs.Meaning.Offers.{IsRising, RisesBy}
use Rattle.theory_semantics.specs.Meaning.Expansions.{offers_cmp}
use Rattle.theory_semantics.proofs.Rising.{first_least, rises_behind}
use Rattle.csp_rows.specs.declared.numbers.ActionId.{ActionId}
use Rattle.csp_rows.specs.declared.numbers.ActionId.TheVariants as by_number
use Rattle.csp_rows.specs.Numbering.{IsNumbered, Numbering, action_at}
use Rattle.csp_rows.specs.InOrder.{offers_in}
use Rattle.csp_rows.specs.Numbers.{EventsRise, number_cmp}
use Rattle.csp_rows.proofs.Members.{map_rises}

-- ---- events

in_turn : (es : List Event) (n m : ℕ) (d e : Event) → RisesBy event_cmp es → n < m → slice_get es n ≡ Some d → slice_get es m ≡ Some e → event_cmp d e ≡ Less
in_turn [] n m d e rise lt at to = absurd (cc at)
in_turn (x ∷ es) zero zero d e rise lt at to = absurd (omega (arith, lt))
in_turn (x ∷ es) zero (suc m) d e rise lt at to =
    let f : Some x ≡ Some d = at in
    let g : x ≡ d = cc f in
    ap (λ (y : Event). event_cmp y e) (sym g) ∙ first_least event_cmp event_total x es rise m e to
in_turn (x ∷ es) (suc n) zero d e rise lt at to = absurd (omega (arith, lt))
in_turn (x ∷ es) (suc n) (suc m) d e rise lt at to = in_turn es n m d e (rises_behind event_cmp x es rise) (omega (arith, lt)) at to

pub events_rise : (z : Numbering) (es : List Event) → RisesBy event_cmp es → z.events ≡ length es → ((n : ℕ) → n < length es → slice_get es n ≡ Some (z.event n)) → EventsRise z
events_rise z es rise count each n m lo hi = by_place (cases_lt n m) (cases_lt m n)
  where
    less : (i j : ℕ) → i < z.events → j < z.events → i < j → event_cmp (z.event i) (z.event j) ≡ Less
    less i j in_i in_j lt = in_turn es i j (z.event i) (z.event j) rise lt (each i (omega (arith, in_i, count))) (each j (omega (arith, in_j, count)))

    same : n ≡ m → event_cmp (z.event n) (z.event m) ≡ Equal
    same e = ap (λ (k : ℕ). event_cmp (z.event n) (z.event k)) (sym e) ∙ tied_itself event_total (z.event n)

    by_place : (n < m) ⊎ (m ≤ n) → (m < n) ⊎ (n ≤ m) → event_cmp (z.event n) (z.event m) ≡ nat_cmp n m
    by_place (inl before) other = less n m lo hi before ∙ nat_cmp_is n m Less before
    by_place (inr one) (inl behind) = event_total.antisymm (z.event n) (z.event m) ∙ ap ordering_reverse (less m n hi lo behind) ∙ nat_cmp_is n m Greater behind
    by_place (inr one) (inr two) = let e : n ≡ m = omega (arith, one, two) in same e ∙ nat_cmp_is n m Equal e

-- ---- actions

module _ (z : Numbering) (rise : EventsRise z) where
  pub actions_numbered : (x y : ActionId) → IsNumbered z.events x → IsNumbered z.events y → action_cmp (action_at z x) (action_at z y) ≡ number_cmp x y
  actions_numbered by_number.Tau by_number.Tau lo hi = refl
  actions_numbered by_number.Tau by_number.Tick lo hi = refl
  actions_numbered by_number.Tau (by_number.Event m) lo hi = refl
  actions_numbered by_number.Tick by_number.Tau lo hi = refl
  actions_numbered by_number.Tick by_number.Tick lo hi = refl
  actions_numbered by_number.Tick (by_number.Event m) lo hi = refl
  actions_numbered (by_number.Event n) by_number.Tau lo hi = refl
  actions_numbered (by_number.Event n) by_number.Tick lo hi = refl
  actions_numbered (by_number.Event n) (by_number.Event m) lo hi = rise n.0 m.0 lo hi

  abbrev AllNumbered : List ActionId → Type 0
  AllNumbered xs = AllByRecursion (λ x. IsNumbered z.events x) xs

  pub lists_numbered : (xs ys : List ActionId) → AllNumbered xs → AllNumbered ys → offers_cmp (map (action_at z) xs) (map (action_at z) ys) ≡ slice_cmp number_cmp xs ys
  lists_numbered [] [] all also = refl
  lists_numbered [] (y ∷ ys) all also = refl
  lists_numbered (x ∷ xs) [] all also = refl
  lists_numbered (x ∷ xs) (y ∷ ys) all also = ap₂ ordering_then (actions_numbered x y all.0 also.0) (lists_numbered xs ys all.1 also.1)

  pub actions_rise : (xs : List ActionId) → AllNumbered xs → RisesBy number_cmp xs → IsRising (map (action_at z) xs)
  actions_rise = map_rises (action_at z) (λ x. IsNumbered z.events x) number_cmp action_cmp actions_numbered

  pub offers_rise : (offers : List (List ActionId)) → AllByRecursion AllNumbered offers → RisesBy (slice_cmp number_cmp) offers → RisesBy offers_cmp (offers_in z offers)
  offers_rise = map_rises (map (action_at z)) AllNumbered (slice_cmp number_cmp) offers_cmp lists_numbered
