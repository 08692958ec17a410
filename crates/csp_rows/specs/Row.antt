-- Rows: terms by the numbers of their parts.
use Rattle.std.specs.Prelude.{ℕ, List}
use Rattle.theory_syntax.specs.Process.{Process}
use Rattle.theory_shapes.specs.Shape.{Shape}
use Rattle.csp_rows.specs.declared.numbers.PartId.{PartId}
use Rattle.csp_rows.specs.declared.part.Part.{Part}
use Rattle.csp_rows.specs.declared.places.Place.{Place}
use Rattle.csp_rows.specs.Shapes.{Tree}

-- A term, its shape, the same by numbers, the numbers of the parts in its holes, what is kept of all parts, the bytes that
-- spell the term, where the part in each hole is spelled, how many nodes there are, and how many operators stand over each
-- hole.
pub record Row (A : Type 0) : Type 0 where
  pub term : Process
  pub shape : Shape
  pub tree : Tree A
  pub numbers : List PartId
  pub parts : List (Part A)
  pub bytes : List ℕ
  pub places : List Place
  pub nodes : ℕ
  pub over : List ℕ
