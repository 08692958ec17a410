-- What is kept of parts is what rows are told by.
use Rattle.std.specs.Prelude.{◌≡◌, true, List, length}
use Rattle.std.specs.List.{AllByRecursion}
use Rattle.theory_shapes.specs.Shape.{Shape, holes}
use Rattle.theory_shapes.specs.ShapeSteps.{AreFired}
use Rattle.csp_rows.specs.declared.numbers.PartId.{PartId}
use Rattle.csp_rows.specs.Numbering.{Numbering}
use Rattle.csp_rows.specs.Rows.{row_parts, row_steps}
use Rattle.csp_rows.specs.ByParts.{AreKept}
use Rattle.csp_numbers.specs.Numbers.{NumbersEvents}
use Rattle.theory_shapes.specs.Alphabet.{alphabet}
use Rattle.kept_parts.specs.declared.parts.Parts.{Parts}
use Rattle.kept_parts.specs.Changed.{IsFiredAt}
use Rattle.kept_parts.specs.KnownSteps.{AreKnown, processes_of, script_in}
use Rattle.kept_parts.specs.Places.{NumbersParts}

-- the steps of each part of the row are kept
abbrev pub AreRowFired : {A : Type 0} → Parts A → List PartId → Type 0
AreRowFired k row = AllByRecursion (λ n. IsFiredAt k n.0 true) row

-- What is kept of the parts is spelled, measured and numbered so, and of a row of parts whose steps are kept these are the
-- steps.
pub record Serves {A : Type 0} (k : Parts A) (z : Numbering) : Type 0 where
  pub kept : AreKept z k.parts.items
  pub fired : (row : List PartId) (s : Shape) → length row ≡ holes s → AreRowFired k row → AreFired (script_in k) s (row_parts z row) (row_steps z k.parts.items row)

-- so they are under each numbering by places
abbrev pub ServeShapes : {A : Type 0} → Parts A → Type 0
ServeShapes k = AreKnown k → (z : Numbering) → NumbersEvents (alphabet (script_in k)) z → NumbersParts (processes_of k) z → Serves k z
