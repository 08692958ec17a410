-- The row after changes, and its order.
use Rattle.std.proofs.Common.{◌≡◌, ℕ, ◌+◌, ◌-◌, ◌<◌, zero, suc, nat_eq, Bool, true, false, cond, List, [], ◌∷◌, ◌++◌, length, get_or, set, take, drop, refl, sym, ap, ap₂, subst, ◌∙◌, Option, Some, None, arith}
use Rattle.std.proofs.lemmas.Bool.{eqb-true}
use Rattle.std.proofs.lemmas.List.{get_or-set_same, get_or-set_other, length-set, map-set, take_more}
use Rattle.std.specs.declared.cmp.Ordering.{Ordering}
use Rattle.std.specs.declared.cmp.Ordering.TheVariants.{Less, Equal, Greater}
use Rattle.std.specs.Cmp.Lexicographic.{slice_cmp}
use Rattle.std.specs.List.{AllByRecursion}
use Rattle.std.specs.Ordering.{ordering_then}
use Rattle.theory_syntax.specs.Order.{process_cmp}
use Rattle.theory_shapes.specs.Changes as pure
use Rattle.csp_rows.specs.declared.changes.Change.{Change}
use Rattle.csp_rows.specs.declared.changes.Run.{Run}
use Rattle.csp_rows.specs.declared.numbers.PartId.{PartId}
use Rattle.csp_rows.specs.declared.step.Step.{Step}
use Rattle.csp_rows.specs.Numbering.{Numbering}
use Rattle.csp_rows.specs.Rows.{row_parts}
use Rattle.csp_rows.specs.Runs.{AreAmong, changes_in, changes_told}
use Rattle.theory_shapes.proofs.Segments.{all_split}
use Rattle.csp_rows.specs.Numbers.{number_cmp, step_number_cmp}
use Rattle.csp_rows.specs.OrderedTargets.{targets_cmp}
use Rattle.csp_rows.specs.ByOrder.{AreRowAmong, IsOrderOf, changes_at, changes_cmp, row_after, step_order}

pub row_length : (cs : List Change) (row : List PartId) → length (row_after cs row) ≡ length row
row_length [] row = refl
row_length (c ∷ cs) row = row_length cs (set row c.hole c.part) ∙ length-set row c.hole c.part

-- ---- one change more

row_more : (cs : List Change) (c : Change) (row : List PartId) → row_after (cs ++ c ∷ []) row ≡ set (row_after cs row) c.hole c.part
row_more [] c row = refl
row_more (d ∷ cs) c row = row_more cs c (set row d.hole d.part)

set_at : (row : List PartId) (i h : ℕ) (p d : PartId) → h < length row → get_or (set row i p) h d ≡ cond (nat_eq i h) p (get_or row h d)
set_at row i h p d within = by_test (nat_eq i h) refl
  where
    by_test : (b : Bool) → nat_eq i h ≡ b → get_or (set row i p) h d ≡ cond b p (get_or row h d)
    by_test true e = let same : i ≡ h = eqb-true i h e in subst (λ (k : ℕ). get_or (set row k p) h d ≡ p) (sym same) (get_or-set_same row h p d within)
    by_test false e = get_or-set_other row i h p d (λ same. let f : nat_eq i h ≡ true = grind (arith, same) in cc (e, f))

-- the part in a hole after one change more
pub part_more : (cs : List Change) (row : List PartId) (k h : ℕ) (part new : PartId) (e : Change) → k < length cs → h < length row → ((d : PartId) → part ≡ get_or (row_after (take k cs) row) h d)
    → new ≡ cond (nat_eq (get_or cs k e).hole h) (get_or cs k e).part part → (d : PartId) → new ≡ get_or (row_after (take (k + 1) cs) row) h d
part_more cs row k h part new e lt within before is d =
    let front = take k cs in
    let c = get_or cs k e in
    is ∙ ap (cond (nat_eq c.hole h) c.part) (before d)
    ∙ sym (set_at (row_after front row) c.hole h c.part d (omega (arith, within, row_length front row)))
    ∙ sym (ap (λ (xs : List PartId). get_or xs h d) (ap (λ (ds : List Change). row_after ds row) (take_more cs k e lt) ∙ row_more front c row))

-- ---- what is not changed

pub unchanged_part : (cs : List Change) (row : List PartId) (i : ℕ) (d : PartId) → AllByRecursion (λ c. c.hole ≡ i → ⊥) cs → get_or (row_after cs row) i d ≡ get_or row i d
unchanged_part [] row i d all = refl
unchanged_part (c ∷ cs) row i d all = unchanged_part cs (set row c.hole c.part) i d all.1 ∙ get_or-set_other row c.hole i c.part d (λ e. all.0 (sym e))

-- the parts tie in a hole that neither changes
pub unchanged_tie : (R : PartId → PartId → Ordering) → ((p : PartId) → R p p ≡ Equal) → (row : List PartId) (cs ds : List Change) (i : ℕ) → AllByRecursion (λ c. c.hole ≡ i → ⊥) cs → AllByRecursion (λ c. c.hole ≡ i → ⊥) ds
    → (d : PartId) → R (get_or (row_after cs row) i d) (get_or (row_after ds row) i d) ≡ Equal
unchanged_tie R itself row cs ds i left right d = ap₂ R (unchanged_part cs row i d left) (unchanged_part ds row i d right) ∙ itself (get_or row i d)

-- ---- lists of parts

module _ (R : PartId → PartId → Ordering) where
  none : PartId
  none = record { 0 = 0 }

  -- the first parts that do not tie decide
  pub decided : (h : ℕ) (xs ys : List PartId) (r : Ordering) → h < length xs → length xs ≡ length ys → ((i : ℕ) → i < h → (d : PartId) → R (get_or xs i d) (get_or ys i d) ≡ Equal) → ((d : PartId) → r ≡ R (get_or xs h d) (get_or ys h d)) → (r ≡ Equal → ⊥)
      → r ≡ slice_cmp R xs ys
  decided h [] ys r within long before is other = absurd (omega (arith, within))
  decided h (x ∷ xs) [] r within long before is other = absurd (omega (arith, long))
  decided zero (x ∷ xs) (y ∷ ys) r within long before is other = first r (is none) other
    where
      first : (r : Ordering) → r ≡ R x y → (r ≡ Equal → ⊥) → r ≡ ordering_then (R x y) (slice_cmp R xs ys)
      first Less is other = ap (λ o. ordering_then o (slice_cmp R xs ys)) is
      first Equal is other = absurd (other refl)
      first Greater is other = ap (λ o. ordering_then o (slice_cmp R xs ys)) is
  decided (suc h) (x ∷ xs) (y ∷ ys) r within long before is other =
      decided h xs ys r (omega (arith, within)) (omega (arith, long)) (λ i lt. before (suc i) (omega (arith, lt))) is other ∙ ap (λ o. ordering_then o (slice_cmp R xs ys)) (sym (before 0 (omega arith) none))

  pub undecided : (xs ys : List PartId) → length xs ≡ length ys → ((i : ℕ) → i < length xs → (d : PartId) → R (get_or xs i d) (get_or ys i d) ≡ Equal) → Equal ≡ slice_cmp R xs ys
  undecided [] [] long same = refl
  undecided [] (y ∷ ys) long same = absurd (omega (arith, long))
  undecided (x ∷ xs) [] long same = absurd (omega (arith, long))
  undecided (x ∷ xs) (y ∷ ys) long same =
      undecided xs ys (omega (arith, long)) (λ i lt. same (suc i) (omega (arith, lt))) ∙ ap (λ o. ordering_then o (slice_cmp R xs ys)) (sym (same 0 (omega arith) none))

-- ---- what the numbers stand for

parts_after : (z : Numbering) (cs : List Change) (row : List PartId) → row_parts z (row_after cs row) ≡ pure.changed (changes_in z cs) (row_parts z row)
parts_after z [] row = refl
parts_after z (c ∷ cs) row = parts_after z cs (set row c.hole c.part) ∙ ap (pure.changed (changes_in z cs)) (map-set (λ (n : PartId). z.part n.0) row c.hole c.part)

all_set : (P : PartId → Type 0) (row : List PartId) (i : ℕ) (p : PartId) → AllByRecursion P row → P p → AllByRecursion P (set row i p)
all_set P [] i p all one = tt
all_set P (x ∷ row) zero p all one = (one, all.1)
all_set P (x ∷ row) (suc i) p all one = (all.0, all_set P row i p all.1 one)

all_after : (n : ℕ) (cs : List Change) (row : List PartId) → AreAmong n cs → AllByRecursion (λ p. p.0 < n) row → AllByRecursion (λ p. p.0 < n) (row_after cs row)
all_after n [] row among all = all
all_after n (c ∷ cs) row among all = all_after n cs (set row c.hole c.part) among.1 (all_set (λ p. p.0 < n) row c.hole c.part all among.0)

ordered_alike : (z : Numbering) (count : ℕ) (R : PartId → PartId → Ordering) (xs ys : List PartId) → IsOrderOf z count R → AllByRecursion (λ p. p.0 < count) xs → AllByRecursion (λ p. p.0 < count) ys
    → slice_cmp R xs ys ≡ slice_cmp process_cmp (row_parts z xs) (row_parts z ys)
ordered_alike z count R [] [] are left right = refl
ordered_alike z count R [] (y ∷ ys) are left right = refl
ordered_alike z count R (x ∷ xs) [] are left right = refl
ordered_alike z count R (x ∷ xs) (y ∷ ys) are left right = ap₂ ordering_then (are x y left.0 right.0) (ordered_alike z count R xs ys are left.1 right.1)

module _ (z : Numbering) (count : ℕ) (R : PartId → PartId → Ordering) (row : List PartId) (pool : List Change) (are : IsOrderOf z count R) (among : AreRowAmong count row pool) where
  abbrev IsAmong : Change → Type 0
  IsAmong c = c.part.0 < count

  among_pool : (o : Option Run) → AreAmong count (changes_at pool o)
  among_pool None = tt
  among_pool (Some r) = (all_split IsAmong (r.to - r.from) (drop r.from pool) (all_split IsAmong r.from pool among.coming).1).0

  told_at : (o : Option Run) → changes_in z (changes_at pool o) ≡ changes_told z pool o
  told_at None = refl
  told_at (Some r) = refl

  after_told : (o : Option Run) → row_parts z (row_after (changes_at pool o) row) ≡ pure.changed (changes_told z pool o) (row_parts z row)
  after_told o = parts_after z (changes_at pool o) row ∙ ap (λ (cs : List pure.Change). pure.changed cs (row_parts z row)) (told_at o)

  changes_alike : (o q : Option Run) → changes_cmp R row (changes_at pool o) (changes_at pool q) ≡ targets_cmp (row_parts z row) (changes_told z pool o) (changes_told z pool q)
  changes_alike o q =
      ordered_alike z count R (row_after (changes_at pool o) row) (row_after (changes_at pool q) row) are (all_after count (changes_at pool o) row (among_pool o) among.standing)
      (all_after count (changes_at pool q) row (among_pool q) among.standing)
      ∙ ap₂ (slice_cmp process_cmp) (after_told o) (after_told q)

  -- steps have the order of the definitions
  pub steps_agree : (s t : Step) → step_order R row pool s t ≡ step_number_cmp z row pool s t
  steps_agree s t = ap (ordering_then (number_cmp s.action t.action)) (changes_alike s.changes t.changes)
