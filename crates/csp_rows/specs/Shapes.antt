-- Shapes by numbers.
use Rattle.std.specs.Prelude.{◌≡◌, ◌<◌, ℕ, ◌+◌, Bool, true, false, List, length}
use Rattle.std.specs.Box.{box_value}
use Rattle.theory_syntax.specs.Process.{Omega, Process, Script}
use Rattle.theory_semantics.specs.Meaning.Stepping.{Steps}
use Rattle.theory_shapes.specs.Shape as pure
use Rattle.theory_shapes.specs.ShapeSteps as pure_steps
use Rattle.csp_rows.specs.declared.changes.Change.{Change}
use Rattle.csp_rows.specs.declared.composed.SideBits.{SideBits}
use Rattle.csp_rows.specs.declared.framed.Frame.{Frame}
use Rattle.csp_rows.specs.declared.numbers.PartId.{PartId}
use Rattle.csp_rows.specs.declared.part.Part.{Part}
use Rattle.csp_rows.specs.declared.shape.Shape.{Shape}
use Rattle.csp_rows.specs.declared.shape.Shape.TheOpen as layer
use Rattle.csp_rows.specs.declared.shape.Shape.TheFolds.{fold-Shape}
use Rattle.csp_rows.specs.declared.step.Step.{Step}
use Rattle.csp_rows.specs.Numbering.{Numbering}
use Rattle.csp_rows.specs.Runs.{AreAmong, AreNumbered, AreToldIn, IsGrown, IsSideIn, Side, steps_of, told_of}
use Rattle.csp_rows.specs.Composed.{AreSideBitsOf}
use Rattle.csp_rows.specs.Framed.{IsFrameOf}
use Rattle.csp_rows.specs.Rows.{ArePartsAmong, ArePartsNumbered, row_parts, row_steps}

-- a shape with what its operators have by numbers
pub data Tree (A : Type 0) : Type 0 where
  Hole : (number : ℕ) → Tree A
  Composed : (bits : SideBits A) (left right : Tree A) → Tree A
  Framed : (frame : Frame A) (body : Tree A) → Tree A

-- one layer, with the trees of its parts in their places
abbrev pub tree_step : {A : Type 0} → layer.Shape-F A (Tree A) → Tree A
tree_step (layer.Hole n) = Hole n
tree_step (layer.Composed bits l r) = Composed bits (box_value l) (box_value r)
tree_step (layer.Framed f s) = Framed f (box_value s)

abbrev pub tree_of : {A : Type 0} → Shape A → Tree A
tree_of {A} = fold-Shape A (Tree A) tree_step

-- It is the shape, whose first hole is that of this number: the holes have their numbers, and the operators their bits.
abbrev pub IsShapeOf : {A : Type 0} → Numbering → Script → ℕ → pure.Shape → Tree A → Type 0
IsShapeOf z script n pure.Hole (Hole number) = number ≡ n
IsShapeOf z script n (pure.Composed c l r) (Composed bits l' r') = AreSideBitsOf z script c bits × IsShapeOf z script n l l' × IsShapeOf z script (n + pure.holes l) r r'
IsShapeOf z script n (pure.Framed f s) (Framed by s') = IsFrameOf z script f by × IsShapeOf z script n s s'
IsShapeOf z script n _ _ = ⊥

abbrev pub is_omega : Process → Bool
is_omega Omega = true
is_omega p = false

-- The side is what the steps of a shape with parts in its holes are told by, and how it ends.
pub record IsToldBy (z : Numbering) (script : Script) (n : ℕ) (s : pure.Shape) (parts : List Process) (known : List Steps) (pool : List Change) (side : Side) : Type 0 where
  pub numbered : AreNumbered z.events side.steps
  pub steps : steps_of z pool side.steps ≡ pure_steps.steps_from script n s parts known
  pub ending : told_of z pool side.ending ≡ pure_steps.ended_side n s
  pub has_ended : side.has_ended ≡ is_omega (pure.fill_from n s parts)

-- The side is that of the shape, whatever the numbers stand for. The pool has grown.
pub record IsShapeSide {A : Type 0} (shape : Tree A) (row : List PartId) (parts : List (Part A)) (pool after : List Change) (side : Side) : Type 0 where
  pub grown : IsGrown pool after
  pub keeps : (n : ℕ) → 0 < n → ArePartsAmong n parts → AreAmong n pool → AreAmong n after
  pub inside : IsSideIn (length after) side
  pub told : (z : Numbering) (script : Script) (n : ℕ) (s : pure.Shape) → IsShapeOf z script n s shape → ArePartsNumbered z.events parts → IsToldBy z script n s (row_parts z row) (row_steps z parts row) after side

-- The steps are those of the shape, whatever the numbers stand for. The pool has grown.
pub record AreShapeSteps {A : Type 0} (shape : Tree A) (row : List PartId) (parts : List (Part A)) (pool after : List Change) (steps : List Step) : Type 0 where
  pub grown : IsGrown pool after
  pub keeps : (n : ℕ) → 0 < n → ArePartsAmong n parts → AreAmong n pool → AreAmong n after
  pub inside : AreToldIn (length after) steps
  pub numbered : (z : Numbering) (script : Script) (s : pure.Shape) → IsShapeOf z script 0 s shape → ArePartsNumbered z.events parts → AreNumbered z.events steps
  pub made : (z : Numbering) (script : Script) (s : pure.Shape) → IsShapeOf z script 0 s shape → ArePartsNumbered z.events parts
      → steps_of z after steps ≡ pure_steps.shape_steps script s (row_parts z row) (row_steps z parts row)
