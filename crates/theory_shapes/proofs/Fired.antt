-- What was fired of the parts tells of the term.
use Rattle.std.proofs.Common.{◌≡◌, ◌↔◌, ◌<◌, ℕ, List, [], ◌∷◌, length, None, sym, ap, subst, inl, inr, Contains, zero, suc, arith}
use Rattle.std.specs.Prelude.{IsTrue, IsFalse}
use Rattle.std.specs.List.{AllByRecursion}
use Rattle.theory_syntax.specs.Value.{Action}
use Rattle.theory_syntax.specs.Process.{Process, Script}
use Rattle.theory_semantics.specs.Meaning.Faults.{cause_in}
use Rattle.theory_semantics.specs.Meaning.Limits.{fits}
use Rattle.theory_semantics.specs.Meaning.Stepping.{Steps}
use Rattle.theory_semantics.specs.Meaning.Transitions.{RuleStep, IsLarge, by_step, IsNotStuck}
use Rattle.theory_semantics.specs.Laws.Statements.{IsOneOf, StepsAre}
use Rattle.theory_shapes.specs.Shape.{Shape, holes, part_at, fill}
use Rattle.theory_shapes.specs.Changes.{Change, changed}
use Rattle.theory_shapes.specs.ShapeSteps.{AreFired, AreKnown, all_changing, changed_by, shape_steps}
use Rattle.theory_shapes.specs.Moves.{steps_at}
use Rattle.theory_shapes.specs.Operators.{HasValues}
use Rattle.theory_shapes.proofs.ByParts.{causes_by_parts}
use Rattle.theory_shapes.proofs.Told.{all_told}

-- ---- lists of steps

pub contains_step : (ss : Steps) (x : Action) (u : Process) → Contains ss (x, u) → IsOneOf ss x u
contains_step [] x u (k, h, e) = absurd (omega arith)
contains_step (s ∷ ss) x u (zero, h, e) = inl (ap (λ z. z.0) (sym e), ap (λ z. z.1) (sym e))
contains_step (s ∷ ss) x u (suc k, h, e) = inr (contains_step ss x u (k, omega arith, e))

pub step_contained : (ss : Steps) (x : Action) (u : Process) → IsOneOf ss x u → Contains ss (x, u)
step_contained [] x u h = absurd h
step_contained (s ∷ ss) x u (inl e) = (0, omega arith, λ i. (sym e.0 i, sym e.1 i))
step_contained (s ∷ ss) x u (inr h) = let r = step_contained ss x u h in (suc r.0, omega (arith, r.1), r.2)

-- what holds of the target of each
all_targets : (P : Process → Type 0) (s : Shape) (parts : List Process) (ms : List (Action × List Change)) → AllByRecursion (λ m. P (fill s (changed m.1 parts))) ms → (x : Action) (u : Process) → IsOneOf (changed_by s parts ms) x u → P u
all_targets P s parts [] all x u h = absurd h
all_targets P s parts (m ∷ ms) all x u (inl e) = subst P (sym e.1) all.0
all_targets P s parts (m ∷ ms) all x u (inr h) = all_targets P s parts ms all.1 x u h

pub its_target : (s : Shape) (parts : List Process) (ms : List (Action × List Change)) (x : Action) (cs : List Change) → Contains ms (x, cs) → IsOneOf (changed_by s parts ms) x (fill s (changed cs parts))
its_target s parts [] x cs (k, h, e) = absurd (omega arith)
its_target s parts (m ∷ ms) x cs (zero, h, e) = inl (ap (λ z. z.0) (sym e), ap (λ z. fill s (changed z.1 parts)) (sym e))
its_target s parts (m ∷ ms) x cs (suc k, h, e) = inr (its_target s parts ms x cs (k, omega arith, e))

-- ---- parts that were fired

pub fired_are_known : (script : Script) (s : Shape) (parts : List Process) (known : List Steps) → AreFired script s parts known → AreKnown script s parts known
fired_are_known script s parts known fired i within x u =
    let each = (fired i within).1 in
    (λ step. contains_step (steps_at known i) x u ((each x u).0 step), λ h. (each x u).1 (step_contained (steps_at known i) x u h))

-- what holds of the part in each hole holds of all parts
all_at : (P : Process → Type 0) (parts : List Process) → ((i : ℕ) → i < length parts → P (part_at parts i)) → AllByRecursion P parts
all_at P [] each = tt
all_at P (p ∷ ps) each = (each 0 (omega arith), all_at P ps (λ i lt. each (suc i) (omega (arith, lt))))

module _ (script : Script) (s : Shape) (parts : List Process) (known : List Steps) (ms : List (Action × List Change)) (long : length parts ≡ holes s) (fired : AreFired script s parts known)
    (values : HasValues script s) (is : shape_steps script s parts known ≡ all_changing ms) where
  are : AreKnown script s parts known
  are = fired_are_known script s parts known fired

  clear : cause_in script (fill s parts) ≡ None
  clear = (causes_by_parts script s parts long).1 (values, all_at (λ p. cause_in script p ≡ None) parts (λ i within. (fired i (omega (arith, within, long))).0.no_cause))

  exactly : StepsAre script (fill s parts) (changed_by s parts ms)
  exactly = all_told script s parts known long are ms is

  pub fired_within : IsTrue (fits (fill s parts)) → AllByRecursion (λ m. IsTrue (fits (fill s (changed m.1 parts)))) ms →
      IsNotStuck script (fill s parts) × ((x : Action) (u : Process) → RuleStep script (fill s parts) x u ↔ Contains (changed_by s parts ms) (x, u))
  fired_within fit all = (
    record { within = fit; no_cause = clear; targets = λ x u step. all_targets (λ p. IsTrue (fits p)) s parts ms all x u ((exactly x u).0 step) },
    λ x u. (λ step. step_contained (changed_by s parts ms) x u ((exactly x u).0 step), λ h. (exactly x u).1 (contains_step (changed_by s parts ms) x u h)),
  )

  pub fired_past : (x : Action) (cs : List Change) → Contains ms (x, cs) → IsFalse (fits (fill s (changed cs parts))) → IsLarge script (fill s parts)
  fired_past x cs h past = let u = fill s (changed cs parts) in by_step clear (x, u, (exactly x u).1 (its_target s parts ms x cs h), past)
