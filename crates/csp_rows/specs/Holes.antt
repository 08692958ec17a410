-- The steps of the part in a hole.
use Rattle.std.specs.Prelude.{◌≡◌, ◌<◌, ℕ, List, [], ◌∷◌, ◌++◌, length, map}
use Rattle.theory_syntax.specs.Process.{Omega}
use Rattle.theory_shapes.specs.Combining.{StepsTo}
use Rattle.theory_shapes.specs.ShapeSteps.{put_in}
use Rattle.csp_rows.specs.declared.changes.Change.{Change}
use Rattle.csp_rows.specs.declared.changes.Run.{Run}
use Rattle.csp_rows.specs.declared.numbers.PartId.{PartId}
use Rattle.csp_rows.specs.declared.step.PartStep.{PartStep}
use Rattle.csp_rows.specs.declared.step.Step.{Step}
use Rattle.csp_rows.specs.Numbering.{Numbering}
use Rattle.csp_rows.specs.Runs.{AreAmong, AreNumbered, AreToldIn, IsGrown, IsSideIn, Side, Told, steps_of, told_of}
use Rattle.csp_rows.specs.Rows.{AreStepsNumbered, AreTargetsAmong, ended_at, part_steps_of}

-- the run has this change, at the end of the grown pool
pub record IsAdded (change : Change) (pool after : List Change) (run : Run) : Type 0 where
  pub grown : after ≡ pool ++ change ∷ []
  pub from : run.from ≡ length pool
  pub to : run.to ≡ length after

-- steps of a part, as changes of its hole
abbrev pub put_steps : Numbering → ℕ → List PartStep → StepsTo Told
put_steps z hole known = map (λ s. (s.0, put_in hole s.1)) (part_steps_of z known)

-- What is added are the steps of a part, as changes of its hole. The pool has grown.
pub record AreKnownIn (hole : ℕ) (known : List PartStep) (pool after : List Change) (added : List Step) : Type 0 where
  pub grown : IsGrown pool after
  pub keeps : (n : ℕ) → AreTargetsAmong n known → AreAmong n pool → AreAmong n after
  pub inside : AreToldIn (length after) added
  pub numbered : (events : ℕ) → AreStepsNumbered events known → AreNumbered events added
  pub made : (z : Numbering) → steps_of z after added ≡ put_steps z hole known

-- The side is that of a hole whose part has these steps.
pub record IsHoleSide (hole : ℕ) (row : List PartId) (known : List PartStep) (pool after : List Change) (side : Side) : Type 0 where
  pub grown : IsGrown pool after
  pub keeps : (n : ℕ) → 0 < n → AreTargetsAmong n known → AreAmong n pool → AreAmong n after
  pub inside : IsSideIn (length after) side
  pub numbered : (events : ℕ) → AreStepsNumbered events known → AreNumbered events side.steps
  pub made : (z : Numbering) → steps_of z after side.steps ≡ put_steps z hole known
  pub ending : (z : Numbering) → told_of z after side.ending ≡ put_in hole Omega
  pub has_ended : side.has_ended ≡ ended_at row hole
