-- A row behind others, with changes made to it.
use Rattle.std.proofs.Common.{◌≡◌, ◌<◌, ◌≤◌, ◌+◌, ℕ, zero, suc, List, [], ◌∷◌, ◌++◌, length, drop, get_or, set, refl, ap, subst, ◌∙◌, arith}
use Rattle.std.specs.List.{AllByRecursion}
use Rattle.std.proofs.lemmas.List.{drop_all, drop_more, length-append}
use Rattle.csp_rows.specs.declared.changes.Change.{Change}
use Rattle.csp_rows.specs.ByOrder.{row_after}
use Rattle.csp_rows.specs.declared.numbers.PartId.{PartId}

-- what is changed behind others
pub set_behind : (before row : List PartId) (i : ℕ) (n : PartId) → set (before ++ row) (length before + i) n ≡ before ++ set row i n
set_behind [] row i n = ap (λ (k : ℕ). set row k n) (let e : 0 + i ≡ i = omega arith in e)
set_behind (m ∷ before) row i n =
    let e : suc (length before) + i ≡ suc (length before + i) = omega arith in
    ap (λ (k : ℕ). set (m ∷ before ++ row) k n) e ∙ ap (λ (ns : List PartId). m ∷ ns) (set_behind before row i n)

pub set_long : (row : List PartId) (i : ℕ) (n : PartId) → length (set row i n) ≡ length row
set_long [] i n = refl
set_long (m ∷ row) zero n = refl
set_long (m ∷ row) (suc i) n = ap suc (set_long row i n)

-- What was put behind others is the row with the first changes made to it: the others that are left make of it what all make
-- of the row.
pub record IsPushed (old parts row : List PartId) (all left : List Change) : Type 0 where
  pub now : List PartId
  pub is : parts ≡ old ++ now
  pub even : length now ≡ length row
  pub rest : row_after left now ≡ row_after all row

pub pushed_next : (old parts row : List PartId) (all left : List Change) (c : Change) → IsPushed old parts row all (c ∷ left) → IsPushed old (set parts (length old + c.hole) c.part) row all left
pushed_next old parts row all left c h = record {
  now = set h.now c.hole c.part;
  is = ap (λ (ps : List PartId). set ps (length old + c.hole) c.part) h.is ∙ set_behind old h.now c.hole c.part;
  even = set_long h.now c.hole c.part ∙ h.even;
  rest = h.rest;
}

pub pushed_on : (old parts row : List PartId) (all : List Change) (i : ℕ) (d : Change) → i < length all → IsPushed old parts row all (drop i all) → IsPushed old (set parts (length old + (get_or all i d).hole) (get_or all i d).part) row all (drop (i + 1) all)
pushed_on old parts row all i d within h = pushed_next old parts row all (drop (i + 1) all) (get_or all i d) (subst (IsPushed old parts row all) (drop_more all i d within) h)

pub pushed_all : (old parts row : List PartId) (all : List Change) (i : ℕ) → length all ≤ i → IsPushed old parts row all (drop i all) → parts ≡ old ++ row_after all row
pushed_all old parts row all i over h =
    let last = subst (IsPushed old parts row all) (drop_all i all over) h in
    last.is ∙ ap (λ (ps : List PartId). old ++ ps) last.rest

pub pushed_long : (old parts row : List PartId) (all left : List Change) → IsPushed old parts row all left → length parts ≡ length old + length row
pushed_long old parts row all left h = ap (λ (ps : List PartId). length ps) h.is ∙ length-append old h.now ∙ ap (λ (n : ℕ). length old + n) h.even

-- what holds of all holds of the one at a place
pub one_of : {X : Type 0} (P : X → Type 0) (xs : List X) (i : ℕ) (d : X) → AllByRecursion P xs → i < length xs → P (get_or xs i d)
one_of P [] i d all within = absurd (omega (arith, within))
one_of P (x ∷ xs) zero d all within = all.0
one_of P (x ∷ xs) (suc i) d all within = one_of P xs i d all.1 (omega (arith, within))
