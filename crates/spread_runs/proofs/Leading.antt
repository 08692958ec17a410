-- Steps that lead on.
use Rattle.std.proofs.Common.{◌≡◌, ◌<◌, ℕ, List, length, map, get_or, slice_get, Some, refl, sym, ◌∙◌, subst, arith}
use Rattle.std.proofs.lemmas.List.{length-map}
use Rattle.std.proofs.lemmas.Option.{slice_get_read, slice_get_within}
use Rattle.theory_syntax.specs.Value.{Action}
use Rattle.theory_syntax.specs.Process.{Process, Script}
use Rattle.theory_syntax.proofs.Places.{get_some}
use Rattle.theory_semantics.specs.Kinds.Scripts.{IsTermOf}
use Rattle.theory_semantics.specs.Meaning.Transitions as meaning
use Rattle.theory_semantics.proofs.KindedSteps.{step_closed}
use Rattle.theory_semantics.proofs.Rising.{Contains-from_stands}
use Rattle.theory_runs.specs.Layers.{AreSteps}
use Rattle.csp_fire.specs.declared.form.Step.{Step}
use Rattle.csp_fire.specs.Form.{step_of}
use Rattle.csp_term.specs.Term.{process_of}
use Rattle.csp_term.specs.declared.term.Term.{Term}
use Rattle.spread_runs.specs.Toward.{LeadsTo, action_done}

module _ (A : Type 0) (steps : List (Step A)) (x : Action) (place : ℕ) (by : slice_get (map action_done steps) place ≡ Some x) where
  -- a step that stands at a place is one of the steps
  pub step_inside : place < length steps
  step_inside =
      let inside = slice_get_within (map action_done steps) place x by in
      let long = length-map steps action_done in
      omega (arith, inside, long)

  -- the one that is read there leads to its target
  pub leads_by : (script : Script) (t : Process) (step : Step A) (next : Term A) → IsTermOf script t → AreSteps script t (map step_of steps) → step ≡ get_or steps place step →
      process_of next ≡ process_of step.target → LeadsTo script t x next
  leads_by script t step next closed are read copied =
      let there = slice_get_read steps (length steps) place step refl step_inside read in
      let does : action_done step ≡ x = same_action (get_some action_done steps place step there) in
      let u = process_of step.target in
      let taken : meaning.Step script t (action_done step) u = (are (action_done step) u).1 (Contains-from_stands (map step_of steps) (action_done step, u) (place, get_some step_of steps place step there)) in
      let by_x : meaning.Step script t x u = subst (λ y. meaning.Step script t y u) does taken in
      let target : IsTermOf script u = (closed.0, closed.1, step_closed script closed.0 closed.1.sets closed.1.equations t x u by_x.1 closed.2) in
      (subst (λ v. meaning.Step script t x v) (sym copied) by_x, subst (IsTermOf script) (sym copied) target)
    where
      same_action : {y : Action} → slice_get (map action_done steps) place ≡ Some y → y ≡ x
      same_action {y} at = let h : Some y ≡ Some x = sym at ∙ by in cc h
