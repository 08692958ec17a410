-- Rows as they are lent to be fired.
use Rattle.std.specs.Prelude.{length}
use Rattle.std.specs.declared.cmp.Ordering.{Ordering}
use Rattle.theory_syntax.specs.Process.{Process, Script}
use Rattle.theory_shapes.specs.Shape.{Shape}
use Rattle.csp_rows.specs.declared.numbers.PartId.{PartId}
use Rattle.csp_rows.specs.Numbering.{Numbering}
use Rattle.csp_rows.specs.Shapes.{tree_of}
use Rattle.csp_rows.specs.ByOrder.{IsOrderOf}
use Rattle.csp_rows.specs.ByParts.{IsRowByParts}
use Rattle.csp_rows.specs.Row.{Row}
use Rattle.csp_rows.specs.declared.row.RowByNumbers.{RowByNumbers}

-- what is lent, as the row of a term and its shape
abbrev pub row_with : {A : Type 0} → Process → Shape → RowByNumbers A → Row A
row_with term shape r = record {
  term = term;
  shape = shape;
  tree = tree_of r.shape.now;
  numbers = r.numbers.now;
  parts = r.parts.now;
  bytes = r.bytes.now;
  places = r.places.now;
  nodes = r.nodes;
  over = r.levels.now;
}

-- What is lent stands for this term, by its parts, and the order is that of all parts.
pub record StandsFor {A : Type 0} (z : Numbering) (script : Script) (term : Process) (shape : Shape) (row : RowByNumbers A) (order : PartId → PartId → Ordering) : Type 0 where
  pub by_parts : IsRowByParts z script (row_with term shape row)
  pub ordered : IsOrderOf z (length row.parts.now) order

-- there is a term that it stands for
abbrev pub StandsForSome : {A : Type 0} → RowByNumbers A → (PartId → PartId → Ordering) → Type 0
StandsForSome row order = (z : Numbering) × (script : Script) × (term : Process) × (shape : Shape) × StandsFor z script term shape row order
