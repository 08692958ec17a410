-- Steps that leave the shape as it is.
use Rattle.std.proofs.Common.{◌≡◌, List, [], ◌∷◌, Option, Some, None, refl, ap₂}
use Rattle.std.specs.Prelude.{IsSome}
use Rattle.std.specs.List.{AllByRecursion}
use Rattle.theory_shapes.specs.Combining.{StepsTo}
use Rattle.theory_shapes.specs.ShapeSteps.{all_changing}
use Rattle.csp_rows.specs.declared.changes.Change.{Change}
use Rattle.csp_rows.specs.declared.changes.Run.{Run}
use Rattle.csp_rows.specs.declared.step.Step.{Step}
use Rattle.csp_rows.specs.Numbering.{Numbering, action_at}
use Rattle.csp_rows.specs.Runs.{Told, changes_told, changing_of, steps_of, told_of}

pub all_kept : (z : Numbering) (pool : List Change) (ss : List Step) → AllByRecursion (λ s. IsSome s.changes) ss → steps_of z pool ss ≡ all_changing (changing_of z pool ss)
all_kept z pool [] all = refl
all_kept z pool (s ∷ ss) all = ap₂ (λ (t : Told) (ys : StepsTo Told). (action_at z s.action, t) ∷ ys) (one s.changes all.0) (all_kept z pool ss all.1)
  where
    one : (o : Option Run) → IsSome o → told_of z pool o ≡ Some (changes_told z pool o)
    one None some = absurd (cc some)
    one (Some r) some = refl
