-- What holds after one more step of a loop over changes.
use Rattle.std.proofs.Common.{◌≡◌, ◌≤◌, ◌<◌, ℕ, ◌+◌, refl, true, false, List, [], ◌∷◌, length, get_or, take, subst, sym, ◌⊎◌, inl, inr, arith}
use Rattle.std.proofs.lemmas.Bool.{cases_lt}
use Rattle.std.proofs.lemmas.List.{take_more}
use Rattle.std.specs.List.{AllByRecursion}
use Rattle.std.specs.Ordering.{is_ne}
use Rattle.std.specs.declared.cmp.Ordering.{Ordering}
use Rattle.std.specs.declared.cmp.Ordering.TheVariants.{Less, Equal, Greater}
use Rattle.csp_rows.specs.declared.changes.Change.{Change}
use Rattle.csp_rows.specs.declared.numbers.PartId.{PartId}
use Rattle.theory_shapes.proofs.Segments.{all_append}
use Rattle.csp_rows.specs.ByOrder.{row_after}
use Rattle.csp_rows.proofs.Rows.{unchanged_tie}

all_more : {X : Type 0} (P : X → Type 0) (xs : List X) (k : ℕ) (d : X) → k < length xs → AllByRecursion P (take k xs) → P (get_or xs k d) → AllByRecursion P (take (k + 1) xs)
all_more {X} P xs k d lt all one = subst (λ (ys : List X). AllByRecursion P ys) (sym (take_more xs k d lt)) (all_append P (take k xs) (get_or xs k d ∷ []) all (one, tt))

-- no change is of this hole
abbrev pub NoneAt : List Change → ℕ → Type 0
NoneAt cs i = AllByRecursion (λ c. c.hole ≡ i → ⊥) cs

-- no change so far is of a hole before the nearest one
pub unchanged_more : (cs : List Change) (k from next new : ℕ) (d : Change) → k < length cs → ((i : ℕ) → from ≤ i → i < next → NoneAt (take k cs) i) → new ≤ next → (from ≤ (get_or cs k d).hole → new ≤ (get_or cs k d).hole)
    → (i : ℕ) → from ≤ i → i < new → NoneAt (take (k + 1) cs) i
unchanged_more cs k from next new d lt all less least i on before =
    all_more (λ c. c.hole ≡ i → ⊥) cs k d lt (all i on (omega (arith, before, less))) (λ e. let le : new ≤ (get_or cs k d).hole = least (omega (arith, e, on)) in omega (arith, e, le, before))

-- what does not differ ties
pub tied : (o : Ordering) → is_ne o ≡ false → o ≡ Equal
tied Less ne = absurd (cc ne)
tied Equal ne = refl
tied Greater ne = absurd (cc ne)

pub not_tied : (o : Ordering) → is_ne o ≡ true → o ≡ Equal → ⊥
not_tied Less ne e = cc e
not_tied Equal ne e = cc ne
not_tied Greater ne e = cc e

module _ (R : PartId → PartId → Ordering) (itself : (p : PartId) → R p p ≡ Equal) (row : List PartId) (left right : List Change) where
  abbrev pub Tie : ℕ → Type 0
  Tie i = (d : PartId) → R (get_or (row_after left row) i d) (get_or (row_after right row) i d) ≡ Equal

  -- what ties up to a hole ties up to the next one that is changed
  pub tie_more : (hole new : ℕ) → ((i : ℕ) → i < hole → Tie i) → Tie hole → ((i : ℕ) → hole + 1 ≤ i → i < new → NoneAt left i) → ((i : ℕ) → hole + 1 ≤ i → i < new → NoneAt right i) → (i : ℕ) → i < new → Tie i
  tie_more hole new before here none also i lt = by_place (cases_lt i hole) (cases_lt hole i)
    where
      by_place : (i < hole) ⊎ (hole ≤ i) → (hole < i) ⊎ (i ≤ hole) → Tie i
      by_place (inl lo) other = before i lo
      by_place (inr on) (inl hi) = unchanged_tie R itself row left right i (none i (omega (arith, hi)) lt) (also i (omega (arith, hi)) lt)
      by_place (inr on) (inr to) = let e : hole ≡ i = omega (arith, on, to) in subst Tie e here
