-- Steps of a row, as they are made and put in order.
use Rattle.std.specs.Prelude.{◌≡◌, ◌≤◌, Contains, List, length, Some}
use Rattle.std.specs.declared.cmp.Ordering.{Ordering}
use Rattle.theory_syntax.specs.Process.{Script}
use Rattle.theory_semantics.specs.Meaning.Limits.{max_size}
use Rattle.theory_semantics.specs.Meaning.Transitions.{RuleStep}
use Rattle.theory_shapes.specs.ShapeSteps.{all_changing}
use Rattle.csp_rows.specs.declared.changes.Change.{Change}
use Rattle.csp_rows.specs.declared.changes.Run.{Run}
use Rattle.csp_rows.specs.declared.numbers.PartId.{PartId}
use Rattle.csp_rows.specs.declared.step.Step.{Step}
use Rattle.csp_rows.specs.Numbering.{IsNumbered, Numbering, action_at}
use Rattle.csp_rows.specs.Places.{AreChangesOf, RiseUpTo, edits_of}
use Rattle.csp_rows.specs.Runs.{AreAmong, IsRunIn, changing_of, run_of, steps_of}
use Rattle.csp_rows.specs.Shapes.{AreShapeSteps}
use Rattle.csp_rows.specs.ByOrder.{ArePutInOrder, IsOrderOf}
use Rattle.csp_rows.specs.Falling.{NeverFall}
use Rattle.csp_rows.specs.Row.{Row}
use Rattle.csp_rows.specs.ByParts.{IsRowByParts}
use Rattle.csp_rows.specs.Targets.{target_of}

-- all steps leave the shape as it is, whatever their numbers stand for
abbrev pub KeepShape : List Step → Type 0
KeepShape steps = (z : Numbering) (pool : List Change) → steps_of z pool steps ≡ all_changing (changing_of z pool steps)

-- A row, the order of parts, what stood in the pool before, the pool, the steps of the row, and the same in order.
pub record RowSteps (A : Type 0) : Type 0 where
  pub row : Row A
  pub order : PartId → PartId → Ordering
  pub before : List Change
  pub pool : List Change
  pub steps : List Step
  pub sorted : List Step

-- These are the steps of a row by parts, and the same put in order by the order of the parts. They leave the shape as it is,
-- and their changes stand in the pool, which had no parts but those that are kept.
pub record AreStepsOfRow {A : Type 0} (z : Numbering) (script : Script) (d : RowSteps A) : Type 0 where
  pub by_parts : IsRowByParts z script d.row
  pub among : AreAmong (length d.row.parts) d.before
  pub made : AreShapeSteps d.row.tree d.row.numbers d.row.parts d.before d.pool d.steps
  pub keep : KeepShape d.steps
  pub ordered : IsOrderOf z (length d.row.parts) d.order
  pub put : ArePutInOrder d.order d.row.numbers d.pool d.steps d.sorted
  pub never_fall : NeverFall d.sorted

-- The step has the changes of this run: those of parts that are kept, of so few holes that they are counted, from left to
-- right, so that the spellings of the parts may be put into the bytes. It is one of the term, to what the changes make of it.
pub record HasChanges {A : Type 0} (z : Numbering) (script : Script) (r : Row A) (pool : List Change) (s : Step) (run : Run) : Type 0 where
  pub is : s.changes ≡ Some run
  pub within : IsRunIn (length pool) run
  pub few : length (run_of pool run) ≤ max_size
  pub changes : AreChangesOf z r.shape r.parts (run_of pool run)
  pub edits : RiseUpTo 0 (length r.bytes) (edits_of r.places r.parts (run_of pool run))
  pub numbered : IsNumbered z.events s.action
  pub leads : RuleStep script r.term (action_at z s.action) (target_of z r pool s)

-- so has each of these steps
abbrev pub HaveChanges : {A : Type 0} → Numbering → Script → Row A → List Change → List Step → Type 0
HaveChanges z script r pool ss = (s : Step) → Contains ss s → (run : Run) × HasChanges z script r pool s run
