-- Tables of shapes and of parts, each of which is known by its place there, and processes as rows of such numbers.
use Rattle.std.specs.Prelude.{◌≡◌, ◌<◌, ℕ, List, get_or, length, map, slice_get, Some}
use Rattle.std.specs.List.{AllByRecursion}
use Rattle.theory_syntax.specs.Process.{Process}
use Rattle.theory_shapes.specs.Shape.{Shape, Hole, fill, holes, part_at}
use Rattle.theory_shapes.specs.Parts.{IsPart}
use Rattle.theory_search.specs.Growth.{AreDistinct, StaysIn}
use Rattle.csp_rows.specs.declared.numbers.PartId.{PartId}

pub record Tables : Type 0 where
  pub shapes : List Shape
  pub parts : List Process

-- the shape of a number, a hole beyond the table
abbrev pub shape_in : Tables → ℕ → Shape
shape_in t n = get_or t.shapes n Hole

-- the parts of numbers, `STOP` beyond the table
abbrev pub parts_in : Tables → List PartId → List Process
parts_in t ns = map (λ n. part_at t.parts n.0) ns

-- No shape and no part stands twice, and no operator that stays is at the head of a part.
pub record AreTables (t : Tables) : Type 0 where
  pub shapes : AreDistinct t.shapes
  pub parts : AreDistinct t.parts
  pub apart : (n : ℕ) (p : Process) → slice_get t.parts n ≡ Some p → IsPart p

-- each shape and each part keeps its number; more may have come
pub record Extends (t u : Tables) : Type 0 where
  pub shapes : StaysIn t.shapes u.shapes
  pub parts : StaysIn t.parts u.parts

-- ---- rows

-- the numbers of a shape and of the parts in its holes, from the left
pub record Row : Type 0 where
  pub shape : ℕ
  pub parts : List PartId

-- the process that the numbers stand for
abbrev pub process_of : Tables → Row → Process
process_of t r = fill (shape_in t r.shape) (parts_in t r.parts)

-- these are the numbers of parts of the table
abbrev pub AreAmong : Tables → List PartId → Type 0
AreAmong t ns = AllByRecursion (λ n. n.0 < length t.parts) ns

-- the numbers are those of a shape and of parts of the tables, one for each hole
pub record IsRowIn (t : Tables) (r : Row) : Type 0 where
  pub shape : r.shape < length t.shapes
  pub parts : AreAmong t r.parts
  pub filled : length r.parts ≡ holes (shape_in t r.shape)

-- a row of the tables that stands for the process
pub record IsRowOf (t : Tables) (p : Process) (r : Row) : Type 0 where
  pub within : IsRowIn t r
  pub is : process_of t r ≡ p
