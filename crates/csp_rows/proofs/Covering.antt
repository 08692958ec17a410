-- A row is covered by its parts, and each of its steps has changes.
use Rattle.std.proofs.Common.{◌≡◌, ◌<◌, ◌-◌, List, length, drop, Option, Some, None, Contains, refl, sym, ap, subst, ◌∙◌}
use Rattle.std.specs.Prelude.{IsTrue}
use Rattle.theory_syntax.specs.Value.{Action}
use Rattle.theory_syntax.specs.Process.{Process, Script}
use Rattle.theory_semantics.specs.Meaning.Limits.{fits, size}
use Rattle.theory_semantics.specs.Meaning.Stepping.{Steps}
use Rattle.theory_semantics.specs.Meaning.Transitions.{RuleStep}
use Rattle.theory_spelling.specs.Spelling.{spelling}
use Rattle.theory_shapes.specs.Changes as pure
use Rattle.theory_shapes.specs.Shape.{fill, holes}
use Rattle.theory_shapes.specs.ShapeSteps.{IsCovered, ShapeSteps, all_changing, shape_steps}
use Rattle.theory_shapes.proofs.Fired.{fired_are_known}
use Rattle.theory_shapes.proofs.Segments.{all_split}
use Rattle.theory_shapes.proofs.Told.{steps_told}
use Rattle.csp_rows.specs.declared.changes.Change.{Change}
use Rattle.csp_rows.specs.declared.changes.Run.{Run}
use Rattle.csp_rows.specs.declared.step.Step.{Step}
use Rattle.csp_rows.specs.Measures.{IsRowWithin}
use Rattle.csp_rows.specs.Numbering.{IsNumbered, Numbering, action_at}
use Rattle.csp_rows.specs.Places.{AreChangesOf, IsRowOf}
use Rattle.csp_rows.specs.Rows.{row_steps}
use Rattle.csp_rows.specs.Runs.{AreAmong, AreNumbered, IsToldIn, Told, changes_of, changes_told, changing_of, run_of, step_of, steps_of, told_of}
use Rattle.csp_rows.proofs.ChangedBytes.{may_be_made}
use Rattle.csp_rows.specs.InOrder.{AreInOrder}
use Rattle.csp_rows.proofs.Members.{all_contained, all_each, map_contained, map_contains}
use Rattle.csp_rows.specs.Row.{Row}
use Rattle.csp_rows.specs.ByParts.{IsRowByParts, parts_in}
use Rattle.csp_rows.specs.Stepped.{AreStepsOfRow, HasChanges, RowSteps}
use Rattle.csp_rows.specs.Targets.{target_of}
use Rattle.csp_rows.proofs.RowsOfParts.{row_count}
use Rattle.csp_rows.proofs.Counting.{few_changes}

module _ {A : Type 0} (z : Numbering) (script : Script) (r : Row A) (is : IsRowByParts z script r) where
  pub long : length (parts_in z r) ≡ holes r.shape
  long = row_count z r.numbers ∙ is.filled

  pub filled_within : IsTrue (fits (fill r.shape (parts_in z r)))
  filled_within = subst (λ (p : Process). IsTrue (fits p)) is.same is.within

  -- what spelling and measuring ask for
  pub is_row : IsRowOf z r.shape (parts_in z r) r.bytes r.places r.parts
  is_row = record { filled = long; spelled = is.spelled ∙ ap spelling is.same; runs = is.runs; known = is.kept.spelled }

  pub is_within : IsRowWithin z r.shape r.nodes r.numbers r.over r.parts
  is_within = record {
    filled = is.filled;
    measured = is.measured ∙ ap size is.same;
    levels = is.leveled;
    kept = is.kept.measured;
    known = is.among;
    within = filled_within;
  }

-- ---- steps

module _ {A : Type 0} (z : Numbering) (script : Script) (d : RowSteps A) (are : AreStepsOfRow z script d) where
  abbrev r : Row A
  r = d.row

  abbrev is : IsRowByParts z script d.row
  is = are.by_parts

  abbrev pool : List Change
  pool = d.pool

  abbrev steps : List Step
  steps = d.steps

  abbrev sorted : List Step
  sorted = d.sorted

  abbrev ps : List Process
  ps = parts_in z d.row

  abbrev known : List Steps
  known = row_steps z d.row.parts d.row.numbers

  told : steps_of z pool steps ≡ shape_steps script r.shape ps known
  told = are.made.made z script r.shape is.by_numbers is.kept.numbered

  pub covered : IsCovered script r.shape ps known (changing_of z pool steps)
  covered = record { filled = long z script r is; fired = is.fired; values = is.values; changing = sym told ∙ are.keep z pool }

  pub numbered : AreNumbered z.events steps
  numbered = are.made.numbered z script r.shape is.by_numbers is.kept.numbered

  pool_among : AreAmong (length r.parts) pool
  pool_among = are.made.keeps (length r.parts) is.kept.some is.kept.among are.among

  pub in_order : AreInOrder z r.numbers pool steps sorted
  in_order = are.put z (length r.parts) are.ordered (record { standing = is.among; coming = pool_among })

  pub sorted_numbered : AreNumbered z.events sorted
  sorted_numbered = all_each (λ s. IsNumbered z.events s.action) sorted (λ s has. all_contained (λ t. IsNumbered z.events t.action) steps s numbered (in_order.sound s has))

  -- ---- the changes of a step

  run_there : (o : Option Run) (cs : List pure.Change) → told_of z pool o ≡ Some cs → (run : Run) × (o ≡ Some run)
  run_there None cs e = absurd (cc e)
  run_there (Some run) cs e = (run, refl)

  has_run : (s : Step) → Contains steps s → (run : Run) × (s.changes ≡ Some run)
  has_run s has =
      let X : Type 0 = Action × Told in
      let some : Action × List pure.Change → X = λ m. (m.0, Some m.1) in
      let there : Contains (all_changing (changing_of z pool steps)) (step_of z pool s) = subst (λ (all : ShapeSteps). Contains all (step_of z pool s)) (are.keep z pool) (map_contains (step_of z pool) steps s has) in
      let m = map_contained some (changing_of z pool steps) (step_of z pool s) there in
      run_there s.changes m.0.1 (sym (ap (λ (x : X). x.1) m.2))

  module _ (s : Step) (has : Contains steps s) (run : Run) (at : s.changes ≡ Some run) where
    abbrev cs : List Change
    cs = run_of pool run

    in_shape : Contains (shape_steps script r.shape ps known) (action_at z s.action, Some (changes_of z pool run))
    in_shape =
        subst (λ (o : Option Run). Contains (shape_steps script r.shape ps known) (action_at z s.action, told_of z pool o)) at
        (subst (λ (all : ShapeSteps). Contains all (step_of z pool s)) told (map_contains (step_of z pool) steps s has))

    changing : pure.RiseWithin 0 (holes r.shape) (changes_of z pool run) × RuleStep script (fill r.shape ps) (action_at z s.action) (fill r.shape (pure.changed (changes_of z pool run) ps))
    changing = (steps_told script r.shape ps known (long z script r is) (fired_are_known script r.shape ps known is.fired)).changing (action_at z s.action) (changes_of z pool run) in_shape

    among_run : AreAmong (length r.parts) cs
    among_run = let P : Change → Type 0 = λ c. c.part.0 < length r.parts in (all_split P (run.to - run.from) (drop run.from pool) (all_split P run.from pool pool_among).1).0

    run_changes : AreChangesOf z r.shape r.parts cs
    run_changes = record { rising = changing.0; known = among_run }

    leads : RuleStep script r.term (action_at z s.action) (target_of z r pool s)
    leads =
        subst (λ (o : Option Run). RuleStep script r.term (action_at z s.action) (fill r.shape (pure.changed (changes_told z pool o) ps))) (sym at)
        (subst (λ (p : Process). RuleStep script p (action_at z s.action) (fill r.shape (pure.changed (changes_of z pool run) ps))) (sym is.same) changing.1)

    has_these : HasChanges z script r pool s run
    has_these = record {
      is = at;
      within = subst (λ (o : Option Run). IsToldIn (length pool) o) at (all_contained (λ t. IsToldIn (length pool) t.changes) steps s are.made.inside has);
      few = few_changes z r.shape ps cs (filled_within z script r is) changing.0;
      changes = run_changes;
      edits = may_be_made z r.shape ps r.bytes r.places r.parts (is_row z script r is) cs run_changes;
      numbered = all_contained (λ t. IsNumbered z.events t.action) steps s numbered has;
      leads = leads;
    }

  pub step_changes : (s : Step) → Contains sorted s → (run : Run) → s.changes ≡ Some run → HasChanges z script r pool s run
  step_changes s has run at = has_these s (in_order.sound s has) run at

  pub some_changes : (s : Step) → Contains sorted s → (run : Run) × HasChanges z script r pool s run
  some_changes s has = let found = has_run s (in_order.sound s has) in (found.0, step_changes s has found.0 found.1)
