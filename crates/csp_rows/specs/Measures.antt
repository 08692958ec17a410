-- What changes measure, by what is kept of parts.
use Rattle.std.specs.Prelude.{◌≡◌, ◌<◌, ◌≤◌, ◌↔◌, IsTrue, Bool, ℕ, ◌+◌, List, get_or, length, sum_by}
use Rattle.std.specs.List.{AllByRecursion}
use Rattle.theory_semantics.specs.Meaning.Limits.{depth, fits, max_depth, size}
use Rattle.theory_syntax.specs.Process.{Process}
use Rattle.theory_shapes.specs.Changes.{changed}
use Rattle.theory_shapes.specs.Measures.{levels}
use Rattle.theory_shapes.specs.Shape.{Shape, fill, holes}
use Rattle.csp_rows.specs.declared.changes.Change.{Change}
use Rattle.csp_rows.specs.declared.numbers.PartId.{PartId}
use Rattle.csp_rows.specs.declared.part.Part.{Part}
use Rattle.csp_rows.specs.Numbering.{Numbering}
use Rattle.csp_rows.specs.Places.{AreChangesOf}
use Rattle.csp_rows.specs.Rows.{depth_at, row_parts, size_at, size_in}
use Rattle.csp_rows.specs.Runs.{changes_in}

-- what the new parts measure, and what those measure whose places they take
abbrev pub size_put_in : {A : Type 0} → List (Part A) → List Change → ℕ
size_put_in parts cs = sum_by (λ c. size_at parts c.part.0) cs

abbrev pub size_taken_out : {A : Type 0} → List (Part A) → List PartId → List Change → ℕ
size_taken_out parts row cs = sum_by (λ c. size_in parts row c.hole) cs

-- no new part reaches too deep
abbrev pub AreShallow : {A : Type 0} → List ℕ → List (Part A) → List Change → Type 0
AreShallow levels parts cs = AllByRecursion (λ c. get_or levels c.hole 0 + depth_at parts c.part.0 ≤ max_depth) cs

-- the parts measure what is kept of them
pub record IsMeasured {A : Type 0} (z : Numbering) (parts : List (Part A)) (n : ℕ) : Type 0 where
  pub size : size_at parts n ≡ size (z.part n)
  pub depth : depth_at parts n ≡ depth (z.part n)

abbrev pub AreMeasured : {A : Type 0} → Numbering → List (Part A) → Type 0
AreMeasured z parts = (n : ℕ) → n < length parts → IsMeasured z parts n

-- A row of parts that are known, within the limits, in the holes of a shape with so many operators over each.
pub record IsRowWithin {A : Type 0} (z : Numbering) (s : Shape) (nodes : ℕ) (row : List PartId) (over : List ℕ) (parts : List (Part A)) : Type 0 where
  pub filled : length row ≡ holes s
  pub measured : nodes ≡ size (fill s (row_parts z row))
  pub levels : over ≡ levels s
  pub kept : AreMeasured z parts
  pub known : AllByRecursion (λ n. n.0 < length parts) row
  pub within : IsTrue (fits (fill s (row_parts z row)))

-- what it is after the changes
abbrev pub row_after : Numbering → Shape → List PartId → List Change → Process
row_after z s row cs = fill s (changed (changes_in z cs) (row_parts z row))

-- the answer tells whether the row is still within the limits after the changes
abbrev pub TellsLimits : {A : Type 0} → ℕ → List Change → List PartId → List ℕ → List (Part A) → Bool → Type 0
TellsLimits nodes cs row over parts answer =
    (z : Numbering) (s : Shape) → IsRowWithin z s nodes row over parts → AreChangesOf z s parts cs → IsTrue answer ↔ IsTrue (fits (row_after z s row cs))
