-- Steps in order, each once, and the acceptances by their actions.
use Rattle.std.specs.Prelude.{◌≡◌, ◌↔◌, IsTrue, Contains, List, [], ◌∷◌, map}
use Rattle.std.specs.declared.cmp.Ordering.TheVariants.{Equal}
use Rattle.theory_syntax.specs.Process.{Script}
use Rattle.theory_syntax.specs.Value.{Action}
use Rattle.theory_semantics.specs.Meaning.Limits.{fits}
use Rattle.theory_semantics.specs.Meaning.Offers.{RisesBy}
use Rattle.theory_semantics.specs.Meaning.Stepping.{Steps}
use Rattle.theory_shapes.specs.Shape.{Shape, fill}
use Rattle.theory_shapes.specs.ShapeSteps.{IsCovered, TargetsFit}
use Rattle.csp_rows.specs.declared.changes.Change.{Change}
use Rattle.csp_rows.specs.declared.numbers.ActionId.{ActionId}
use Rattle.csp_rows.specs.declared.numbers.ActionId.TheVariants.{Tau, Tick}
use Rattle.csp_rows.specs.declared.numbers.PartId.{PartId}
use Rattle.csp_rows.specs.declared.step.Step.{Step}
use Rattle.csp_rows.specs.Numbering.{Numbering, action_at}
use Rattle.csp_rows.specs.Rows.{row_parts}
use Rattle.csp_rows.specs.Runs.{AreNumbered, changing_of}
use Rattle.csp_rows.specs.Numbers.{number_cmp, step_number_cmp}

-- Steps of a row of parts in order, each target once: no others, and of those that have one target by one action, one.
pub record AreInOrder (z : Numbering) (row : List PartId) (pool : List Change) (steps sorted : List Step) : Type 0 where
  pub rise : RisesBy (step_number_cmp z row pool) sorted
  pub sound : (s : Step) → Contains sorted s → Contains steps s
  pub complete : (s : Step) → Contains steps s → (t : Step) × Contains sorted t × (step_number_cmp z row pool s t ≡ Equal)

-- some step is by this action
abbrev pub IsDoneBy : List Step → ActionId → Type 0
IsDoneBy steps x = (s : Step) × Contains steps s × (s.action ≡ x)

-- the actions that steps are by, in order, each once
pub record AreActionsOf (steps : List Step) (actions : List ActionId) : Type 0 where
  pub rise : RisesBy number_cmp actions
  pub each : (x : ActionId) → Contains actions x ↔ IsDoneBy steps x

-- what is accepted beside tau, by the other actions: tick alone, if it is one of them, and they are in order
abbrev pub offers_beside_tau : List ActionId → List (List ActionId)
offers_beside_tau (Tick ∷ xs) = (Tick ∷ []) ∷ []
offers_beside_tau xs = []

-- What is accepted by actions in order, each once: tick alone, if it is one of them, and all, if tau is none of them.
abbrev pub offers_of : List ActionId → List (List ActionId)
offers_of (Tau ∷ xs) = offers_beside_tau xs
offers_of (Tick ∷ x ∷ xs) = (Tick ∷ []) ∷ (Tick ∷ x ∷ xs) ∷ []
offers_of xs = xs ∷ []

-- the acceptances that they stand for
abbrev pub offers_in : Numbering → List (List ActionId) → List (List Action)
offers_in z offers = map (map (action_at z)) offers

-- A row of parts in the holes of a shape, within the limits, covered by what was fired of the parts. Its steps lead to terms
-- within the limits, and stand in order, with the actions that they are by.
pub record IsRowInOrder (z : Numbering) (script : Script) (s : Shape) (row : List PartId) (known : List Steps) (pool : List Change) (steps sorted : List Step) (actions : List ActionId) : Type 0 where
  pub covered : IsCovered script s (row_parts z row) known (changing_of z pool steps)
  pub within : IsTrue (fits (fill s (row_parts z row)))
  pub targets : TargetsFit s (row_parts z row) (changing_of z pool steps)
  pub numbered : AreNumbered z.events steps
  pub order : AreInOrder z row pool steps sorted
  pub done : AreActionsOf sorted actions
