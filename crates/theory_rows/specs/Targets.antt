-- What the steps of a row lead to, by numbers.
use Rattle.std.specs.Prelude.{◌≡◌, ◌<◌, ℕ, Bool, List, map}
use Rattle.std.specs.List.{AllByRecursion}
use Rattle.theory_syntax.specs.Process.{Omega, Script}
use Rattle.theory_semantics.specs.Laws.Statements.{StepsAre}
use Rattle.theory_semantics.specs.Meaning.Stepping.{Steps}
use Rattle.theory_shapes.specs.Shape.{Shape, fill, holes, part_at}
use Rattle.theory_shapes.specs.Combining.{StepsTo}
use Rattle.csp_rows.specs.declared.numbers.PartId.{PartId}
use Rattle.theory_rows.specs.Tables.{Tables, Row, IsRowIn, IsRowOf, parts_in, process_of, shape_in}
use Rattle.theory_rows.specs.Grafts.{Graft, grafted, spliced}
use Rattle.theory_rows.specs.GraftSteps.{has_ended, steps_by}

-- the shape that a row's becomes by grafts of rows
abbrev pub new_shape : Tables → Row → List (Graft Row) → Shape
new_shape t r gs = grafted (λ q. shape_in t q.shape) 0 0 (shape_in t r.shape) gs

-- and the numbers of its parts
abbrev pub new_parts : Row → List (Graft Row) → List PartId
new_parts r gs = spliced (λ q. q.parts) r.parts 0 gs

-- the row after them, where its shape has this number
abbrev pub row_after : ℕ → Row → List (Graft Row) → Row
row_after shape r gs = record { shape = shape; parts = new_parts r gs }

-- the grafts are of rows of the tables
abbrev pub AreGraftsIn : Tables → List (Graft Row) → Type 0
AreGraftsIn t gs = AllByRecursion (λ g. IsRowIn t g.new) gs

-- What is known of the part in each hole: its steps, to rows, and whether it has ended. And the row of what has ended.
pub record Known : Type 0 where
  pub over : Row
  pub steps : ℕ → StepsTo Row
  pub ended : ℕ → Bool

-- It is so of the parts of a row. The steps lead to rows of the tables.
pub record IsKnownOf (script : Script) (t : Tables) (r : Row) (k : Known) : Type 0 where
  pub over : IsRowOf t Omega k.over
  pub within : (i : ℕ) → i < holes (shape_in t r.shape) → AllByRecursion (λ z. IsRowIn t z.1) (k.steps i)
  pub steps : (i : ℕ) → i < holes (shape_in t r.shape) → StepsAre script (part_at (parts_in t r.parts) i) (map (λ z. (z.0, process_of t z.1)) (k.steps i))
  pub ended : (i : ℕ) → i < holes (shape_in t r.shape) → k.ended i ≡ has_ended (part_at (parts_in t r.parts) i)

-- the steps of a row, by what is known of its parts
abbrev pub row_steps : Script → Tables → Row → Known → StepsTo (List (Graft Row))
row_steps script t r k = steps_by script k.over k.steps k.ended 0 0 (shape_in t r.shape)

-- what they lead to
abbrev pub row_led_to : Tables → Row → StepsTo (List (Graft Row)) → Steps
row_led_to t r gss = map (λ g. (g.0, fill (new_shape t r g.1) (parts_in t (new_parts r g.1)))) gss
