-- What is kept of parts tells the limits.
use Rattle.std.proofs.Common.{◌≡◌, ◌<◌, ◌≤◌, ◌↔◌, ℕ, zero, suc, ◌+◌, List, [], ◌∷◌, length, get_or, refl, ap, ap₂, ◌∙◌, arith}
use Rattle.std.specs.Prelude.{IsTrue, Bool, fold}
use Rattle.std.specs.List.{AllByRecursion}
use Rattle.std.proofs.lemmas.List.{length-map}
use Rattle.theory_semantics.specs.Meaning.Limits.{max_size, size}
use Rattle.theory_shapes.specs.Changes as pure
use Rattle.theory_shapes.specs.Measures as pure_measures
use Rattle.theory_shapes.specs.Shape.{Shape, fill, holes, part_at}
use Rattle.theory_shapes.proofs.Changing.{rise_on}
use Rattle.theory_shapes.proofs.Measured.{fit_after, fit_before}
use Rattle.csp_rows.specs.declared.changes.Change.{Change}
use Rattle.csp_rows.specs.declared.numbers.PartId.{PartId}
use Rattle.csp_rows.specs.declared.part.Part.{Part}
use Rattle.csp_rows.specs.Numbering.{Numbering}
use Rattle.csp_rows.specs.Runs.{AreAmong, changes_in}
use Rattle.csp_rows.specs.Rows.{row_parts, size_at, size_in}
use Rattle.csp_rows.specs.Measures.{AreMeasured, AreShallow, TellsLimits, size_put_in, size_taken_out}

module _ {A : Type 0} (z : Numbering) (parts : List (Part A)) (are : AreMeasured z parts) where
  -- the part in a hole measures what is kept of it
  size_in_row : (row : List PartId) (hole : ℕ) → hole < length row → AllByRecursion (λ n. n.0 < length parts) row → size_in parts row hole ≡ size (part_at (row_parts z row) hole)
  size_in_row [] hole lt known = absurd (omega (arith, lt))
  size_in_row (n ∷ row) zero lt known = (are n.0 known.0).size
  size_in_row (n ∷ row) (suc hole) lt known = size_in_row row hole (omega (arith, lt)) known.1

  put_in_told : (n m : ℕ) (cs : List Change) → n ≡ m → AreAmong (length parts) cs → fold (λ a c. a + size_at parts c.part.0) n cs ≡ fold (λ a c. a + size c.part) m (changes_in z cs)
  put_in_told n m [] same known = same
  put_in_told n m (c ∷ cs) same known = put_in_told (n + size_at parts c.part.0) (m + size (z.part c.part.0)) cs (ap₂ ◌+◌ same (are c.part.0 known.0).size) known.1

  shallow_told : (over : List ℕ) (s : Shape) (cs : List Change) → over ≡ pure_measures.levels s → AreAmong (length parts) cs → AreShallow over parts cs → pure_measures.AreShallow s (changes_in z cs)
  shallow_told over s [] same known all = tt
  shallow_told over s (c ∷ cs) same known all =
      let depth_is = (are c.part.0 known.0).depth in
      let level_is = ap (λ (ls : List ℕ). get_or ls c.hole 0) same in
      (omega (arith, depth_is, level_is, all.0), shallow_told over s cs same known.1 all.1)

  shallow_by : (over : List ℕ) (s : Shape) (cs : List Change) → over ≡ pure_measures.levels s → AreAmong (length parts) cs → pure_measures.AreShallow s (changes_in z cs) → AreShallow over parts cs
  shallow_by over s [] same known all = tt
  shallow_by over s (c ∷ cs) same known all =
      let depth_is = (are c.part.0 known.0).depth in
      let level_is = ap (λ (ls : List ℕ). get_or ls c.hole 0) same in
      (omega (arith, depth_is, level_is, all.0), shallow_by over s cs same known.1 all.1)

  taken_out_told : (s : Shape) (row : List PartId) (k n m : ℕ) (cs : List Change) → length row ≡ holes s → AllByRecursion (λ n. n.0 < length parts) row → pure.RiseWithin k (holes s) (changes_in z cs) → n ≡ m →
      fold (λ a c. a + size_in parts row c.hole) n cs ≡ fold (λ a c. a + size (part_at (row_parts z row) c.hole)) m (changes_in z cs)
  taken_out_told s row k n m [] long known rise same = same
  taken_out_told s row k n m (c ∷ cs) long known rise same =
      let lt = rise_on (suc c.hole) (holes s) (changes_in z cs) rise.1 in
      taken_out_told s row (suc c.hole) (n + size_in parts row c.hole) (m + size (part_at (row_parts z row) c.hole)) cs long known rise.1 (ap₂ ◌+◌ same (size_in_row row c.hole (omega (arith, lt, long)) known))

-- so the numbers tell the limits
pub limits_told : {A : Type 0} (nodes : ℕ) (cs : List Change) (row : List PartId) (over : List ℕ) (parts : List (Part A)) (answer : Bool) →
    IsTrue answer ↔ ((nodes + size_put_in parts cs ≤ max_size + size_taken_out parts row cs) × AreShallow over parts cs) → TellsLimits nodes cs row over parts answer
limits_told nodes cs row over parts answer measured = λ z s is are.
    let ps = row_parts z row in
    let all = changes_in z cs in
    let long : length ps ≡ holes s = length-map row (λ (n : PartId). z.part n.0) ∙ is.filled in
    let in_told : size_put_in parts cs ≡ pure_measures.size_put_in all = put_in_told z parts is.kept 0 0 cs refl are.known in
    let out_told : size_taken_out parts row cs ≡ pure_measures.size_taken_out ps all = taken_out_told z parts is.kept s row 0 0 0 cs is.filled is.known are.rising refl in
    let nodes_told : nodes ≡ size (fill s ps) = is.measured in (
      (λ yes_it. let h = measured.0 yes_it in
          let few = h.0 in
          fit_after s ps all long are.rising is.within (omega (arith, few, in_told, out_told, nodes_told), shallow_told z parts is.kept over s cs is.levels are.known h.1)),
      (λ fit. let h = fit_before s ps all long are.rising is.within fit in
          let few = h.0 in
          measured.1 (omega (arith, few, in_told, out_told, nodes_told), shallow_by z parts is.kept over s cs is.levels are.known h.1)),
    )
