-- Actions and lists of actions that are sorted, each kept once.
use denote.RattleType
use mir.Syntax
use lib.Pointwise.{pointwise}
use Rattle.std.proofs.Common.{◌≡◌, ◌↔◌, Bool, List, [], Vec, Contains, map, sym, subst}
use Rattle.std.specs.declared.alloc.Allocator as allocator
use Rattle.std.specs.declared.clone.Clone as clone
use Rattle.std.specs.declared.cmp.Ordering.{Ordering}
use Rattle.std.specs.Cmp.Lexicographic.{slice_cmp}
use Rattle.std.specs.FinMap.{slice_cmp-IsAntisymmetric}
use Rattle.std.specs.List.{dedup}
use Rattle.std.specs.List.Retain.{IsFiltered, DiffersFromLast}
use Rattle.std.specs.List.Sorted.{IsPermutation, IsSorted}
use Rattle.std.proofs.lemmas.Cmp.{lists_total}
use Rattle.std.proofs.lemmas.List.Filters.{dedup_is}
use Rattle.theory_syntax.specs.Value as pure
use Rattle.theory_syntax.proofs.Orders.{action_total, action_ties}
use Rattle.theory_semantics.specs.Meaning.Expansions.{offers_cmp}
use Rattle.theory_semantics.specs.Meaning.Offers.{IsRising, RisesBy}
use Rattle.theory_runs.proofs.Sortings.{once_stays, once_rises}
use Rattle.csp_value.specs.declared.handle.AllocHandle as handle
use Rattle.csp_value.specs.declared.action.Action.{Action}
use Rattle.csp_value.specs.Action.{action_of}
use Rattle.csp_value.proofs.ActionEquality.{action_eq, action_tells}
use Rattle.csp_value.proofs.ActionOrder.{action_order, action_ordered}
use Rattle.csp_value.proofs.Sameness.{Tells, lists_tell}
use Rattle.csp_value.proofs.Slices.{slices_ordered}
use Rattle.csp_replay.specs.Offers.{offers_listed}

module _ (R : RattleType.RattleType) (H : handle.Ghosts R.Denot) (hd : Syntax.Dict) (A : allocator.Ghosts R.Denot) (ad : Syntax.Dict) (C : clone.Ghosts R.Denot) (cd : Syntax.Dict) where
  abbrev same : Action R.Denot → Action R.Denot → Bool
  same = action_eq R H hd A ad C cd

  abbrev order : Action R.Denot → Action R.Denot → Ordering
  order = action_order R H hd A ad C cd

  -- ---- actions

  module _ (given sorted after : List (Action R.Denot)) (kept : IsFiltered (DiffersFromLast same) [] sorted after) where
    once : dedup same sorted ≡ after
    once = sym (dedup_is same sorted after kept)

    pub actions_stay : IsPermutation given sorted → (x : pure.Action) → Contains (map action_of given) x ↔ Contains (map action_of after) x
    actions_stay moved x =
        let tells = action_tells R H hd A ad C cd in
        let P : List (Action R.Denot) → Type 0 = λ xs. Contains (map action_of given) x ↔ Contains (map action_of xs) x in
        subst P once (once_stays same action_of tells.sound tells.complete given sorted moved x)

    pub actions_rise : IsSorted order sorted → IsRising (map action_of after)
    actions_rise in_order =
        let tells = action_tells R H hd A ad C cd in
        let P : List (Action R.Denot) → Type 0 = λ xs. IsRising (map action_of xs) in
        subst P once (once_rises same action_of tells.sound tells.complete order pure.action_cmp (action_ordered R H hd A ad C cd) action_total action_ties sorted in_order)

  -- ---- lists of actions

  abbrev Offer : Type 0
  Offer = Vec (Action R.Denot) R.Denot

  abbrev pub same_offer : Offer → Offer → Bool
  same_offer x y = pointwise same x.items y.items

  abbrev pub offer_order : Offer → Offer → Ordering
  offer_order x y = slice_cmp order x.items y.items

  abbrev actions_in : Offer → List pure.Action
  actions_in offer = map action_of offer.items

  offers_tell : Tells same_offer actions_in
  offers_tell = let tells = lists_tell same action_of (action_tells R H hd A ad C cd) in record { sound = λ x y. tells.sound x.items y.items; complete = λ x y. tells.complete x.items y.items }

  module _ (given sorted after : List Offer) (kept : IsFiltered (DiffersFromLast same_offer) [] sorted after) where
    offers_once : dedup same_offer sorted ≡ after
    offers_once = sym (dedup_is same_offer sorted after kept)

    pub offers_stay : IsPermutation given sorted → (xs : List pure.Action) → Contains (offers_listed given) xs ↔ Contains (offers_listed after) xs
    offers_stay moved xs =
        let P : List Offer → Type 0 = λ os. Contains (offers_listed given) xs ↔ Contains (offers_listed os) xs in
        subst P offers_once (once_stays same_offer actions_in offers_tell.sound offers_tell.complete given sorted moved xs)

    pub offers_rise : IsSorted offer_order sorted → RisesBy offers_cmp (offers_listed after)
    offers_rise in_order =
        let P : List Offer → Type 0 = λ os. RisesBy offers_cmp (offers_listed os) in
        subst P offers_once
        (once_rises same_offer actions_in offers_tell.sound offers_tell.complete offer_order offers_cmp (λ x y. slices_ordered order pure.action_cmp action_of (action_ordered R H hd A ad C cd) x.items y.items) (lists_total action_total)
        (slice_cmp-IsAntisymmetric action_ties) sorted in_order)
