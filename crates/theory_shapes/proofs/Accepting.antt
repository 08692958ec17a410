-- What a term accepts, by the actions of its steps.
use Rattle.std.proofs.Common.{Contains, ◌≡◌, ◌↔◌, List, [], ◌∷◌, length, sym, subst, inl, inr, suc, refl, arith}
use Rattle.std.specs.Prelude.{IsTrue}
use Rattle.std.specs.List.{AllByRecursion}
use Rattle.theory_syntax.specs.Value.{Action, Tau, Tick}
use Rattle.theory_syntax.specs.Process.{Process, Script}
use Rattle.theory_semantics.specs.Meaning.Expansions.{IsFired}
use Rattle.theory_semantics.specs.Meaning.Limits.{fits}
use Rattle.theory_semantics.specs.Meaning.Offers.{CanDo, IsAcceptance, of_stable, of_tick}
use Rattle.theory_semantics.specs.Meaning.Stepping.{Steps}
use Rattle.theory_semantics.specs.Meaning.Transitions.{RuleStep, IsNotStuck}
use Rattle.theory_semantics.specs.Laws.Statements.{IsOneOf, StepsAre}
use Rattle.theory_shapes.specs.Shape.{Shape, holes, fill}
use Rattle.theory_shapes.specs.Changes.{Change, changed}
use Rattle.theory_shapes.specs.ShapeSteps.{AreFired, AreKnown, HasStepBy, IsShown, IsAcceptedBy, all_changing, changed_by, shape_steps}
use Rattle.theory_shapes.specs.Operators.{HasValues}
use Rattle.theory_shapes.proofs.Fired.{fired_are_known, fired_within, its_target}
use Rattle.theory_shapes.proofs.Told.{all_told}

its_action : (s : Shape) (parts : List Process) (ms : List (Action × List Change)) (x : Action) (u : Process) → IsOneOf (changed_by s parts ms) x u → HasStepBy ms x
its_action s parts [] x u h = absurd h
its_action s parts (m ∷ ms) x u (inl e) = (m.1, (0, omega arith, λ i. (sym e.0 i, m.1)))
its_action s parts (m ∷ ms) x u (inr h) = let r = its_action s parts ms x u h in let k = r.1 in (r.0, (suc k.0, omega (arith, k.1), k.2))

module _ (script : Script) (s : Shape) (parts : List Process) (known : List Steps) (ms : List (Action × List Change)) (long : length parts ≡ holes s) (are : AreKnown script s parts known)
    (is : shape_steps script s parts known ≡ all_changing ms) (free : IsNotStuck script (fill s parts)) where
  abbrev t : Process
  t = fill s parts

  exactly : StepsAre script t (changed_by s parts ms)
  exactly = all_told script s parts known long are ms is

  has_step : (x : Action) (u : Process) → RuleStep script t x u → HasStepBy ms x
  has_step x u step = its_action s parts ms x u ((exactly x u).0 step)

  steps_by : (x : Action) → HasStepBy ms x → (u : Process) × RuleStep script t x u
  steps_by x (cs, h) = let u = fill s (changed cs parts) in (u, (exactly x u).1 (its_target s parts ms x cs h))

  can_by : (x : Action) → HasStepBy ms x → CanDo script t x
  can_by x h = let r = steps_by x h in (r.0, (free, r.1))

  by_can : (x : Action) → CanDo script t x → HasStepBy ms x
  by_can x (u, step) = has_step x u step.1

  accepted : (xs : List Action) → IsAcceptance script t xs → IsAcceptedBy ms xs
  accepted xs (of_stable stable all) =
      inl (λ h. let r = steps_by Tau h in stable.no_tau r.0 r.1, all.rising, λ x. (λ h. by_can x ((all.each x).0 h), λ h. (all.each x).1 (can_by x h)))
  accepted xs (of_tick can) = inr (by_can Tick can, refl)

  accepts : (xs : List Action) → IsAcceptedBy ms xs → IsAcceptance script t xs
  accepts xs (inl (no_tau, rising, each)) =
      of_stable (record { not_stuck = free; no_tau = λ u step. no_tau (has_step Tau u step) })
      (record { rising = rising; each = λ x. (λ h. can_by x ((each x).0 h), λ can. (each x).1 (by_can x can)) })
  accepts xs (inr (h, e)) = subst (λ ys. IsAcceptance script t ys) (sym e) (of_tick (can_by Tick h))

  pub accepted_exactly : (xs : List Action) → IsAcceptance script t xs ↔ IsAcceptedBy ms xs
  accepted_exactly xs = (accepted xs, accepts xs)

-- ---- what is shown

pub fired_shown : (script : Script) (t : Process) (steps : Steps) (offers : List (List Action)) → IsFired script t steps offers → IsShown script t steps offers
fired_shown script t steps offers fired = record { not_stuck = fired.not_stuck; each_step = fired.each_step; each_offer = fired.each_offer }

pub parts_show : (script : Script) (s : Shape) (parts : List Process) (known : List Steps) (ms : List (Action × List Change)) (offers : List (List Action)) → length parts ≡ holes s → AreFired script s parts known → HasValues script s →
    shape_steps script s parts known ≡ all_changing ms → IsTrue (fits (fill s parts)) → AllByRecursion (λ m. IsTrue (fits (fill s (changed m.1 parts)))) ms → ((xs : List Action) → IsAcceptedBy ms xs ↔ Contains offers xs) →
    IsShown script (fill s parts) (changed_by s parts ms) offers
parts_show script s parts known ms offers long fired values is fit all listed =
    let whole = fired_within script s parts known ms long fired values is fit all in
    let exactly = accepted_exactly script s parts known ms long (fired_are_known script s parts known fired) is whole.0 in
    record { not_stuck = whole.0; each_step = whole.1; each_offer = λ xs. (λ h. (listed xs).0 ((exactly xs).0 h), λ h. (exactly xs).1 ((listed xs).1 h)) }
