-- Steps that are sorted and kept once are in order.
use Rattle.std.proofs.Common.{◌≡◌, Bool, List, [], ◌∷◌, Contains, refl, sym, ap, subst, ◌∙◌}
use Rattle.std.proofs.lemmas.Cmp.{eq_by_cmp_equiv, lists_total, on_total, then_total}
use Rattle.std.proofs.lemmas.List.Kept.{Any-dedup, Contains-from_dedup, IsStrictlySortedBy-dedup}
use Rattle.std.proofs.lemmas.List.Sorted.{Contains-permutation, IsPermutation-sym}
use Rattle.std.specs.Cmp.{IsTotalOrder}
use Rattle.std.specs.List.{dedup}
use Rattle.std.specs.List.Sorted.{IsPermutation, IsSorted, IsStrictlySortedBy}
use Rattle.std.specs.Ordering.{is_eq, is_lt, ordering_then}
use Rattle.std.specs.declared.cmp.Ordering.{Ordering}
use Rattle.std.specs.declared.cmp.Ordering.TheVariants.{Less, Equal, Greater}
use Rattle.theory_syntax.proofs.Equalities.{is_eq-Equal}
use Rattle.theory_semantics.specs.Meaning.Offers.{RisesBy}
use Rattle.csp_rows.specs.declared.changes.Change.{Change}
use Rattle.csp_rows.specs.declared.numbers.PartId.{PartId}
use Rattle.csp_rows.specs.declared.step.Step.{Step}
use Rattle.csp_rows.specs.Numbers.{number_cmp, step_number_cmp}
use Rattle.csp_rows.specs.Falling.{NeverFall}
use Rattle.csp_rows.specs.ByOrder.{ArePutInOrder, changes_at, changes_cmp, row_after, step_order}
use Rattle.csp_rows.proofs.ActionOrder.{number_total}
use Rattle.csp_rows.proofs.Rows.{steps_agree}

-- what is sorted strictly by one order rises by another that is the same
pub strict_rises : {X : Type 0} (R S : X → X → Ordering) → ((x y : X) → R x y ≡ S x y) → (xs : List X) → IsStrictlySortedBy R xs → RisesBy S xs
unfolding IsStrictlySortedBy
strict_rises R S same [] sorted = tt
strict_rises R S same (x ∷ []) sorted = tt
strict_rises R S same (x ∷ y ∷ ys) sorted = (ap is_lt (sym (same x y) ∙ sorted.0.0), strict_rises R S same (y ∷ ys) sorted.1)

less_falls : (r o : Ordering) → ordering_then r o ≡ Less → r ≡ Greater → ⊥
less_falls Less o e f = cc f
less_falls Equal o e f = cc f
less_falls Greater o e f = cc e

module _ (order : PartId → PartId → Ordering) (total : IsTotalOrder order) (row : List PartId) (pool : List Change) where
  abbrev R : Step → Step → Ordering
  R = step_order order row pool

  pub step_total : IsTotalOrder R
  step_total = then_total (on_total (λ s. s.action) number_total) (on_total (λ s. row_after (changes_at pool s.changes) row) (lists_total total))

  strict_falls : (ss : List Step) → IsStrictlySortedBy R ss → NeverFall ss
  unfolding IsStrictlySortedBy
  strict_falls [] sorted = tt
  strict_falls (s ∷ []) sorted = tt
  strict_falls (s ∷ t ∷ ts) sorted = (less_falls (number_cmp s.action t.action) (changes_cmp order row (changes_at pool s.changes) (changes_at pool t.changes)) sorted.0.0, strict_falls (t ∷ ts) sorted.1)

  abbrev Ties : Step → Step → Bool
  Ties s t = is_eq (R s t)

  module _ (given sorted once : List Step) (moved : IsPermutation given sorted) (in_order : IsSorted R sorted) (is : once ≡ dedup Ties sorted) where
    strictly : IsStrictlySortedBy R once
    strictly = subst (λ (ss : List Step). IsStrictlySortedBy R ss) (sym is) (IsStrictlySortedBy-dedup step_total (λ x y. refl) sorted in_order)

    pub fall_never : NeverFall once
    fall_never = strict_falls once strictly

    kept_of : (s : Step) → Contains given s → (t : Step) × Contains once t × (R s t ≡ Equal)
    kept_of s has =
        let k = Any-dedup (eq_by_cmp_equiv step_total) sorted s (Contains-permutation given sorted s moved has) in
        (k.1, subst (λ (ss : List Step). Contains ss k.1) (sym is) (k.0, k.2, k.3), is_eq-Equal (R s k.1) k.4)

    pub put_so : ArePutInOrder order row pool given once
    put_so z count are among = record {
      rise = strict_rises R (step_number_cmp z row pool) (steps_agree z count order row pool are among) once strictly;
      sound = λ s has. Contains-permutation sorted given s (IsPermutation-sym given sorted moved) (Contains-from_dedup Ties sorted s (subst (λ (ss : List Step). Contains ss s) is has));
      complete = λ s has. let t = kept_of s has in (t.0, t.1, sym (steps_agree z count order row pool are among s t.0) ∙ t.2);
    }
