-- The actions of steps that do not fall, each once.
use Rattle.std.proofs.Common.{◌≡◌, ℕ, ◌+◌, zero, suc, Bool, false, List, [], ◌∷◌, map, get_or, Contains, refl, sym, ap, subst, ◌∙◌, arith}
use Rattle.std.proofs.lemmas.Cmp.{eq_by_cmp_equiv}
use Rattle.std.proofs.lemmas.List.Kept.{Contains-dedup, Contains-from_dedup, IsStrictlySortedBy-dedup}
use Rattle.std.specs.List.{dedup}
use Rattle.std.specs.List.Sorted.{IsSorted}
use Rattle.std.specs.Ordering.{is_eq, is_lt, ordering_reverse}
use Rattle.std.specs.declared.cmp.Ordering.{Ordering}
use Rattle.std.specs.declared.cmp.Ordering.TheVariants.{Less, Equal, Greater}
use Rattle.theory_syntax.proofs.Equalities.{is_eq-Equal}
use Rattle.csp_rows.specs.declared.numbers.ActionId.{ActionId}
use Rattle.csp_rows.specs.declared.step.Step.{Step}
use Rattle.csp_rows.specs.InOrder.{AreActionsOf}
use Rattle.csp_rows.specs.Numbers.{number_cmp}
use Rattle.csp_rows.proofs.Members.{map_contained, map_contains}
use Rattle.csp_rows.specs.Falling.{NeverFall}
use Rattle.csp_rows.proofs.ActionOrder.{number_same, number_total}
use Rattle.csp_rows.proofs.Ordered.{strict_rises}

not_above : (r : Ordering) → (r ≡ Greater → ⊥) → is_lt (ordering_reverse r) ≡ false
not_above Less falls = refl
not_above Equal falls = refl
not_above Greater falls = absurd (falls refl)

abbrev pub actions : List Step → List ActionId
actions ss = map (λ s. s.action) ss

sorted_actions : (ss : List Step) → NeverFall ss → IsSorted number_cmp (actions ss)
sorted_actions [] falls k d low lt = absurd (omega (arith, lt))
sorted_actions (s ∷ []) falls k d low lt = absurd (omega (arith, lt))
sorted_actions (s ∷ t ∷ ts) falls zero d low lt = ap is_lt (number_total.antisymm t.action s.action) ∙ not_above (number_cmp s.action t.action) falls.0
sorted_actions (s ∷ t ∷ ts) falls (suc k) d low lt =
    let all = actions (s ∷ t ∷ ts) in
    let e : suc (k + 1) ≡ suc k + 1 = omega arith in
    subst (λ (m : ℕ). is_lt (number_cmp (get_or all m d) (get_or all (suc k) d)) ≡ false) e (sorted_actions (t ∷ ts) falls.1 k d (omega arith) (omega (arith, lt)))

abbrev pub Ties : ActionId → ActionId → Bool
Ties x y = is_eq (number_cmp x y)

pub actions_once : (ss : List Step) (all once : List ActionId) → all ≡ actions ss → once ≡ dedup Ties all → NeverFall ss → AreActionsOf ss once
actions_once ss all once listed is falls =
    let whole : once ≡ dedup Ties (actions ss) = is ∙ ap (dedup Ties) listed in
    subst (AreActionsOf ss) (sym whole) (record {
      rise = strict_rises number_cmp number_cmp (λ x y. refl) (dedup Ties (actions ss)) (IsStrictlySortedBy-dedup number_total (λ x y. refl) (actions ss) (sorted_actions ss falls));
      each = λ x. (
        λ has. map_contained (λ s. s.action) ss x (Contains-from_dedup Ties (actions ss) x has),
        λ done. Contains-dedup (eq_by_cmp_equiv number_total) (λ y z e. number_same y z (is_eq-Equal (number_cmp y z) e)) (actions ss) x
            (subst (Contains (actions ss)) done.2 (map_contains (λ s. s.action) ss done.0 done.1)),
      );
    })
