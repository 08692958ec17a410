-- Rows whose parts were fired.
use Rattle.std.specs.Prelude.{◌<◌, ℕ, IsTrue, List}
use Rattle.std.specs.List.{AllByRecursion}
use Rattle.theory_syntax.specs.Process.{Script}
use Rattle.theory_semantics.specs.Meaning.Limits.{fits}
use Rattle.theory_semantics.specs.Meaning.Transitions.{IsNotStuck}
use Rattle.theory_shapes.specs.Combining.{StepsTo}
use Rattle.theory_shapes.specs.Operators.{HasValues}
use Rattle.theory_shapes.specs.Shape.{fill, holes, part_at}
use Rattle.theory_rows.specs.Tables.{AreTables, IsRowIn, Row, Tables, parts_in, process_of, shape_in}
use Rattle.theory_rows.specs.Grafts.{Graft}
use Rattle.theory_rows.specs.Targets.{IsKnownOf, Known, new_parts, new_shape}

-- A row of the tables, within the limits. What is known of its parts is so, none of them is stuck, and the sets and renamings of
-- its shape have values.
pub record IsRowFired (script : Script) (t : Tables) (r : Row) (k : Known) : Type 0 where
  pub tables : AreTables t
  pub row : IsRowIn t r
  pub known : IsKnownOf script t r k
  pub parts : (i : ℕ) → i < holes (shape_in t r.shape) → IsNotStuck script (part_at (parts_in t r.parts) i)
  pub values : HasValues script (shape_in t r.shape)
  pub within : IsTrue (fits (process_of t r))

-- each step leads to a term within the limits
abbrev pub TargetsFit : Tables → Row → StepsTo (List (Graft Row)) → Type 0
TargetsFit t r gss = AllByRecursion (λ g. IsTrue (fits (fill (new_shape t r g.1) (parts_in t (new_parts r g.1))))) gss
