-- What a form shows of a term.
use Rattle.std.proofs.Common.{◌≡◌, true, false, None, Some, refl, sym, ◌∙◌, ap, subst}
use Rattle.theory_syntax.specs.Process.{Process, Script}
use Rattle.theory_semantics.specs.Meaning.Evaluation.{Cause}
use Rattle.theory_semantics.specs.Meaning.Expansions.{Form, Fired, FiredFaulty, FiredLarge, IsFormOf}
use Rattle.theory_semantics.specs.Meaning.Transitions.{IsFaulty, IsLarge, itself, by_step, IsNotStuck}
use Rattle.theory_runs.specs.Layers.{AreSteps}
use Rattle.theory_runs.proofs.Firing.{fired_steps, faulty_steps, large_steps, not_both, not_large}
use Rattle.theory_runs.specs.Stuck.{Hindrance, ByCause, BySize, IsStuckBy, stuck_form, steps_in}

module _ (script : Script) (t : Process) where
  pub one_cause : (c d : Cause) → IsFaulty script t c → IsFaulty script t d → c ≡ d
  one_cause c d first second = let e : Some c ≡ Some d = sym first.cause ∙ second.cause in cc e

  pub faulty_is_not_large : (c : Cause) → IsFaulty script t c → IsLarge script t → ⊥
  faulty_is_not_large c faulty (itself past) = let e : false ≡ true = sym past ∙ faulty.within in cc e
  faulty_is_not_large c faulty (by_step none leads) = let e : None ≡ Some c = sym none ∙ faulty.cause in cc e

  pub free_is_not_stuck : (h : Hindrance) → IsNotStuck script t → IsStuckBy script t h → ⊥
  free_is_not_stuck (ByCause c) free stuck = not_both script t c stuck free
  free_is_not_stuck BySize free stuck = not_large script t stuck free

  -- the term is stuck by what its form says
  pub shown : (h : Hindrance) (form : Form) → IsFormOf script t form → form ≡ stuck_form h → IsStuckBy script t h
  shown (ByCause c) form of is = subst (IsFormOf script t) is of
  shown BySize form of is = subst (IsFormOf script t) is of

  pub shows : (h : Hindrance) (form : Form) → IsFormOf script t form → IsStuckBy script t h → form ≡ stuck_form h
  shows h (Fired steps offers) of stuck = absurd (free_is_not_stuck h of.not_stuck stuck)
  shows (ByCause c) (FiredFaulty d) of stuck = ap FiredFaulty (one_cause d c of stuck)
  shows BySize (FiredFaulty d) of stuck = absurd (faulty_is_not_large d of stuck)
  shows (ByCause c) FiredLarge of stuck = absurd (faulty_is_not_large c stuck of)
  shows BySize FiredLarge of stuck = refl

  pub form_steps : (form : Form) → IsFormOf script t form → AreSteps script t (steps_in form)
  form_steps (Fired steps offers) of = fired_steps script t steps offers of
  form_steps (FiredFaulty c) of = faulty_steps script t c of
  form_steps FiredLarge of = large_steps script t of

  -- by one thing alone
  pub one_hindrance : (h k : Hindrance) → IsStuckBy script t h → IsStuckBy script t k → h ≡ k
  one_hindrance (ByCause c) (ByCause d) first second = ap ByCause (one_cause c d first second)
  one_hindrance (ByCause c) BySize first second = absurd (faulty_is_not_large c first second)
  one_hindrance BySize (ByCause d) first second = absurd (faulty_is_not_large d second first)
  one_hindrance BySize BySize first second = refl
