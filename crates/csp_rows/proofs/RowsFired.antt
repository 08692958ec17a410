-- The steps of a row are exactly what firing its term gives.
use Rattle.std.proofs.Common.{◌≡◌, ◌<◌, ℕ, suc, List, [], ◌∷◌, length, None, Contains, refl, sym, ap, subst, ◌∙◌, arith}
use Rattle.std.specs.Prelude.{IsFalse, IsTrue, Bool}
use Rattle.std.specs.List.{AllByRecursion}
use Rattle.std.specs.declared.cmp.Ordering.TheVariants.{Equal}
use Rattle.theory_syntax.specs.Order.{process_cmp}
use Rattle.theory_syntax.specs.Value.{Action, action_cmp}
use Rattle.theory_syntax.specs.Process.{Process, Script}
use Rattle.theory_syntax.proofs.Equalities.{then_first, then_second}
use Rattle.theory_syntax.proofs.Orders.{action_ties}
use Rattle.theory_syntax.proofs.ProcessOrder.{process_same}
use Rattle.theory_semantics.specs.Meaning.Expansions.{IsFired, step_cmp}
use Rattle.theory_semantics.specs.Meaning.Faults.{cause_in}
use Rattle.theory_semantics.specs.Meaning.Limits.{fits}
use Rattle.theory_semantics.specs.Meaning.Stepping.{Steps}
use Rattle.theory_semantics.specs.Meaning.Transitions.{IsLarge, by_step}
use Rattle.theory_shapes.specs.Changes as pure
use Rattle.theory_shapes.specs.Shape.{fill, part_at}
use Rattle.theory_shapes.specs.ShapeSteps.{TargetsFit, changed_by}
use Rattle.theory_shapes.proofs.ByParts.{causes_by_parts}
use Rattle.csp_rows.specs.declared.changes.Change.{Change}
use Rattle.csp_rows.specs.declared.changes.Run.{Run}
use Rattle.csp_rows.specs.declared.numbers.ActionId.{ActionId}
use Rattle.csp_rows.specs.declared.step.Step.{Step}
use Rattle.csp_rows.specs.Measures.{TellsLimits}
use Rattle.csp_rows.specs.Numbering.{IsNumbered, Numbering, action_at}
use Rattle.csp_rows.specs.Rows.{row_steps}
use Rattle.csp_rows.specs.Runs.{changes_told, changing_of, run_of}
use Rattle.csp_rows.specs.InOrder.{AreActionsOf, offers_in, offers_of}
use Rattle.csp_rows.proofs.FiredInOrder.{fired_numbers}
use Rattle.csp_rows.proofs.Members.{all_contained, all_each}
use Rattle.csp_rows.proofs.OrderedSteps.{steps_changing, steps_numbered}
use Rattle.csp_rows.specs.Row.{Row}
use Rattle.csp_rows.specs.ByParts.{IsRowByParts, parts_in}
use Rattle.csp_rows.specs.Stepped.{AreStepsOfRow, HasChanges, RowSteps}
use Rattle.csp_rows.specs.Targets.{step_told, steps_told, target_of}
use Rattle.csp_rows.proofs.Covering.{covered, filled_within, in_order, long, numbered, sorted_numbered}
use Rattle.csp_rows.proofs.Leading.{limits_told}

-- steps that tie are the same
step_same : (p q : Action × Process) → step_cmp p q ≡ Equal → p ≡ q
step_same p q e =
    let x = action_ties p.0 q.0 (then_first (action_cmp p.0 q.0) (process_cmp p.1 q.1) e) in
    let u = process_same p.1 q.1 (then_second (action_cmp p.0 q.0) (process_cmp p.1 q.1) e) in
    λ i. (x i, u i)

-- what holds of the part in each hole holds of all parts
all_at : (P : Process → Type 0) (parts : List Process) → ((i : ℕ) → i < length parts → P (part_at parts i)) → AllByRecursion P parts
all_at P [] each = tt
all_at P (p ∷ ps) each = (each 0 (omega arith), all_at P ps (λ i lt. each (suc i) (omega (arith, lt))))

module _ {A : Type 0} (z : Numbering) (r : Row A) (pool : List Change) where
  abbrev named : Step → Action × List pure.Change
  named s = (action_at z s.action, changes_told z pool s.changes)

  pub told_changing : (ss : List Step) → steps_told z r pool ss ≡ changed_by r.shape (parts_in z r) (changing_of z pool ss)
  told_changing [] = refl
  told_changing (s ∷ ss) = ap (λ (ts : Steps). step_told z r pool s ∷ ts) (told_changing ss)

module _ {A : Type 0} (z : Numbering) (script : Script) (d : RowSteps A) (are : AreStepsOfRow z script d) where
  abbrev r : Row A
  r = d.row

  abbrev is : IsRowByParts z script d.row
  is = are.by_parts

  abbrev pool : List Change
  pool = d.pool

  abbrev steps : List Step
  steps = d.steps

  abbrev sorted : List Step
  sorted = d.sorted

  abbrev ps : List Process
  ps = parts_in z r

  abbrev told : Step → Action × Process
  told s = step_told z r pool s

  -- each step that was made has one in order with its action and its target
  kept_for : (s : Step) → Contains steps s → (t : Step) × Contains sorted t × (told s ≡ told t)
  kept_for s has =
      let count = long z script r is in
      let all = numbered z script d are in
      let all_sorted = sorted_numbered z script d are in
      let t = (in_order z script d are).complete s has in
      let tie = steps_changing r.shape ps count (named z r pool s) (named z r pool t.0)
      ∙ steps_numbered z is.rising r.numbers pool s t.0 (all_contained (λ x. IsNumbered z.events x.action) steps s all has) (all_contained (λ x. IsNumbered z.events x.action) sorted t.0 all_sorted t.1) ∙ t.2
      in
      (t.0, t.1, step_same (told s) (told t.0) tie)

  all_changing_of : (Q : Action × List pure.Change → Type 0) (ss : List Step) → AllByRecursion (λ s. Q (named z r pool s)) ss → AllByRecursion Q (changing_of z pool ss)
  all_changing_of Q [] all = tt
  all_changing_of Q (s ∷ ss) all = (all.0, all_changing_of Q ss all.1)

  all_fit : AllByRecursion (λ s. IsTrue (fits (target_of z r pool s))) sorted → TargetsFit r.shape ps (changing_of z pool steps)
  all_fit fit =
      all_changing_of (λ m. IsTrue (fits (fill r.shape (pure.changed m.1 ps)))) steps
      (all_each (λ s. IsTrue (fits (target_of z r pool s))) steps (λ s has.
      let t = kept_for s has in
      subst (λ (x : Action × Process). IsTrue (fits x.1)) (sym t.2) (all_contained (λ x. IsTrue (fits (target_of z r pool x))) sorted t.0 fit t.1)))

  -- they are what firing gives
  pub row_fired : (actions : List ActionId) → AreActionsOf sorted actions → AllByRecursion (λ s. IsTrue (fits (target_of z r pool s))) sorted → IsFired script r.term (steps_told z r pool sorted) (offers_in z (offers_of actions))
  row_fired actions done fit =
      subst (λ (ts : Steps). IsFired script r.term ts (offers_in z (offers_of actions))) (sym (told_changing z r pool sorted))
      (subst (λ (p : Process). IsFired script p (changed_by r.shape ps (changing_of z pool sorted)) (offers_in z (offers_of actions))) (sym is.same)
      (fired_numbers z script r.shape r.numbers (row_steps z r.parts r.numbers) pool steps sorted actions is.rising (record {
        covered = covered z script d are;
        within = filled_within z script r is;
        targets = all_fit fit;
        numbered = numbered z script d are;
        order = in_order z script d are;
        done = done;
      })))

  all_told : (ss : List Step) → AllByRecursion (λ t. IsTrue (fits t.1)) (steps_told z r pool ss) → AllByRecursion (λ s. IsTrue (fits (target_of z r pool s))) ss
  all_told [] all = tt
  all_told (s ∷ ss) all = (all.0, all_told ss all.1)

  pub told_fired : (actions : List ActionId) (all : Steps) → AreActionsOf sorted actions → all ≡ steps_told z r pool sorted → AllByRecursion (λ t. IsTrue (fits t.1)) all → IsFired script r.term all (offers_in z (offers_of actions))
  told_fired actions all done same fit =
      subst (λ (ts : Steps). IsFired script r.term ts (offers_in z (offers_of actions))) (sym same)
      (row_fired actions done (all_told sorted (subst (λ (ts : Steps). AllByRecursion (λ t. IsTrue (fits t.1)) ts) same fit)))

-- or one of them leads past the limits

module _ {A : Type 0} (z : Numbering) (script : Script) (r : Row A) (is : IsRowByParts z script r) where
  clear : cause_in script r.term ≡ None
  clear =
      let ps = parts_in z r in
      let count = long z script r is in
      let each = all_at (λ p. cause_in script p ≡ None) ps (λ i within. (is.fired i (omega (arith, within, count))).0.no_cause) in
      ap (cause_in script) is.same ∙ (causes_by_parts script r.shape ps count).1 (is.values, each)

  pub row_large : (pool : List Change) (s : Step) (run : Run) (answer : Bool) → HasChanges z script r pool s run → TellsLimits r.nodes (run_of pool run) r.numbers r.over r.parts answer → IsFalse answer → IsLarge script r.term
  row_large pool s run answer has tells past = by_step clear (action_at z s.action, target_of z r pool s, has.leads, sym (limits_told z script r is pool s run has answer tells) ∙ past)
