-- Steps of a shape have the order of their changes, and of their numbers.
use Rattle.std.proofs.Common.{◌≡◌, List, [], ◌∷◌, length, sym, ap}
use Rattle.std.specs.List.{AllByRecursion}
use Rattle.std.specs.Ordering.{ordering_then}
use Rattle.std.specs.Prelude.{⊤}
use Rattle.theory_syntax.specs.Process.{Process}
use Rattle.theory_syntax.specs.Value.{Action, action_cmp}
use Rattle.theory_semantics.specs.Meaning.Expansions.{step_cmp}
use Rattle.theory_semantics.specs.Meaning.Offers.{RisesBy}
use Rattle.theory_shapes.specs.Changes as pure
use Rattle.theory_shapes.specs.Shape.{Shape, fill, holes}
use Rattle.theory_shapes.specs.ShapeSteps.{changed_by}
use Rattle.csp_rows.specs.declared.changes.Change.{Change}
use Rattle.csp_rows.specs.declared.numbers.PartId.{PartId}
use Rattle.csp_rows.specs.declared.step.Step.{Step}
use Rattle.csp_rows.specs.Numbering.{IsNumbered, Numbering, action_at}
use Rattle.csp_rows.specs.Rows.{row_parts}
use Rattle.csp_rows.specs.Runs.{AreNumbered, changes_told, changing_of}
use Rattle.csp_rows.specs.Numbers.{EventsRise, step_number_cmp}
use Rattle.csp_rows.specs.OrderedTargets.{changing_cmp, targets_cmp}
use Rattle.csp_rows.proofs.Members.{map_rises, map_rose}
use Rattle.csp_rows.proofs.OrderedNumbers.{actions_numbered}
use Rattle.csp_rows.proofs.OrderedTargets.{targets_whole}

pub all_trivial : {X : Type 0} (xs : List X) → AllByRecursion (λ x. ⊤) xs
all_trivial [] = tt
all_trivial (x ∷ xs) = (tt, all_trivial xs)

-- ---- by changes

module _ (s : Shape) (parts : List Process) (long : length parts ≡ holes s) where
  abbrev step : Action × List pure.Change → Action × Process
  step m = (m.0, fill s (pure.changed m.1 parts))

  pub steps_changing : (m n : Action × List pure.Change) → step_cmp (step m) (step n) ≡ changing_cmp parts m n
  steps_changing m n = ap (ordering_then (action_cmp m.0 n.0)) (targets_whole s parts m.1 n.1 long)

  pub changing_rise : (ms : List (Action × List pure.Change)) → RisesBy (changing_cmp parts) ms → RisesBy step_cmp (changed_by s parts ms)
  changing_rise ms = map_rises step (λ m. ⊤) (changing_cmp parts) step_cmp (λ m n one two. steps_changing m n) ms (all_trivial ms)

  pub changing_rose : (ms : List (Action × List pure.Change)) → RisesBy step_cmp (changed_by s parts ms) → RisesBy (changing_cmp parts) ms
  changing_rose ms = map_rose step (λ m. ⊤) (changing_cmp parts) step_cmp (λ m n one two. sym (steps_changing m n)) ms (all_trivial ms)

-- ---- by numbers

module _ (z : Numbering) (rise : EventsRise z) (row : List PartId) (pool : List Change) where
  abbrev pub told : Step → Action × List pure.Change
  told s = (action_at z s.action, changes_told z pool s.changes)

  pub steps_numbered : (s t : Step) → IsNumbered z.events s.action → IsNumbered z.events t.action → changing_cmp (row_parts z row) (told s) (told t) ≡ step_number_cmp z row pool s t
  steps_numbered s t lo hi = ap (λ o. ordering_then o (targets_cmp (row_parts z row) (changes_told z pool s.changes) (changes_told z pool t.changes))) (actions_numbered z rise s.action t.action lo hi)

  pub numbered_rise : (ss : List Step) → AreNumbered z.events ss → RisesBy (step_number_cmp z row pool) ss → RisesBy (changing_cmp (row_parts z row)) (changing_of z pool ss)
  numbered_rise = map_rises told (λ s. IsNumbered z.events s.action) (step_number_cmp z row pool) (changing_cmp (row_parts z row)) steps_numbered

  pub numbered_rose : (ss : List Step) → AreNumbered z.events ss → RisesBy (changing_cmp (row_parts z row)) (changing_of z pool ss) → RisesBy (step_number_cmp z row pool) ss
  numbered_rose = map_rose told (λ s. IsNumbered z.events s.action) (step_number_cmp z row pool) (changing_cmp (row_parts z row)) (λ s t lo hi. sym (steps_numbered s t lo hi))
