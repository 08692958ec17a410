-- Steps that leave the shape of a row as it is.
use Rattle.std.specs.Prelude.{◌≡◌, ◌<◌, ℕ, ◌+◌, ◌-◌, List, get_or, length}
use Rattle.std.specs.List.{AllByRecursion}
use Rattle.theory_syntax.specs.Process.{Process}
use Rattle.theory_shapes.specs.Changes as pure
use Rattle.theory_shapes.specs.Shape.{part_at}
use Rattle.csp_rows.specs.declared.changes.Change.{Change}
use Rattle.csp_rows.specs.Numbering.{Numbering}
use Rattle.csp_rows.specs.ByOrder.{row_after}
use Rattle.theory_rows.specs.Grafts.{Graft}
use Rattle.theory_rows.specs.Tables.{Row, Tables}

-- the numbers of the table's parts stand for these parts
abbrev pub StandsFor : Numbering → Tables → Type 0
StandsFor z t = (n : ℕ) → n < length t.parts → z.part n ≡ part_at t.parts n

-- changes to parts of the table
abbrev pub AreChangesIn : Tables → List Change → Type 0
AreChangesIn t cs = AllByRecursion (λ c. c.part.0 < length t.parts) cs

-- the row with the parts of changes in their holes
abbrev pub changed_row : List Change → Row → Row
changed_row cs r = record { shape = r.shape; parts = row_after cs r.parts }

-- A change as a graft of its hole, where the first hole is that of this number and so many operators stand above the shape,
-- which has so many above each hole.
abbrev pub hole_graft : ℕ → ℕ → List ℕ → pure.Change → Graft Process
hole_graft n k over c = record { from = c.hole; to = c.hole + 1; above = k + get_or over (c.hole - n) 0; new = c.part }
