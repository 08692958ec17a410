-- A closed term of a well-kinded script has its steps, or is faulty without a misfit, or is large.
use Rattle.std.proofs.Common.{◌≡◌, ◌≢◌, ◌⊎◌, inl, inr, true, false, [], ◌∷◌, Option, Some, None, refl, ◌∙◌, ap, IsTrue, IsFalse}
use Rattle.std.proofs.lemmas.Bool.{cases_Bool}
use Rattle.theory_syntax.specs.Value.{Action}
use Rattle.theory_syntax.specs.Process.{Process, Script}
use Rattle.theory_semantics.specs.Meaning.Evaluation.{Cause, IllKinded}
use Rattle.theory_semantics.specs.Meaning.Limits.{fits}
use Rattle.theory_semantics.specs.Meaning.Faults.{height, cause_in}
use Rattle.theory_semantics.specs.Meaning.Transitions.{IsFaulty, IsLarge, itself, by_step, IsNotStuck}
use Rattle.theory_semantics.specs.Meaning.Runs.{SomeReachable}
use Rattle.theory_semantics.specs.Meaning.Stepping.{Steps, rule_steps}
use Rattle.theory_semantics.specs.Laws.Statements.{IsOneOf}
use Rattle.theory_semantics.specs.Kinds.Kind.{Kinds}
use Rattle.theory_semantics.specs.Kinds.Processes.{IsClosedTerm}
use Rattle.theory_semantics.specs.Kinds.Scripts.{IsWellKindedScript}
use Rattle.theory_semantics.proofs.Stepping.{exact}
use Rattle.theory_semantics.proofs.Misfits.{none_differs}
use Rattle.theory_semantics.proofs.KindedSteps.{proper_within, run_closed}

-- whether all steps of a list lead to terms within the limits
pub all_fit : (ss : Steps) → ((x : Action) (u : Process) → IsOneOf ss x u → IsTrue (fits u)) ⊎ ((x : Action) × (u : Process) × IsOneOf ss x u × IsFalse (fits u))
all_fit [] = inl (λ x u h. absurd h)
all_fit (s ∷ ss) = by_first (cases_Bool (fits s.1)) (all_fit ss)
  where
    first_or : fits s.1 ≡ true → ((x : Action) (u : Process) → IsOneOf ss x u → IsTrue (fits u)) → (x : Action) (u : Process) → IsOneOf (s ∷ ss) x u → IsTrue (fits u)
    first_or e rest x u (inl h) = ap fits h.1 ∙ e
    first_or e rest x u (inr h) = rest x u h

    by_first : (fits s.1 ≡ true) ⊎ (fits s.1 ≡ false) → ((x : Action) (u : Process) → IsOneOf ss x u → IsTrue (fits u)) ⊎ ((x : Action) × (u : Process) × IsOneOf ss x u × IsFalse (fits u)) →
        ((x : Action) (u : Process) → IsOneOf (s ∷ ss) x u → IsTrue (fits u)) ⊎ ((x : Action) × (u : Process) × IsOneOf (s ∷ ss) x u × IsFalse (fits u))
    by_first (inr e) rest = inr (s.0, s.1, inl (refl, refl), e)
    by_first (inl e) (inl rest) = inl (first_or e rest)
    by_first (inl e) (inr h) = inr (h.0, h.1, inr h.2, h.3)

module _ (script : Script) (kinds : Kinds) (good : IsWellKindedScript script kinds) where
  pub no_misfit : (t : Process) → IsClosedTerm script kinds t → cause_in script t ≢ Some IllKinded
  no_misfit t h = none_differs (cause_in script t) (proper_within script kinds good.sets good.equations (height t) t h)

  pub faulty_no_misfit : (t : Process) (c : Cause) → IsClosedTerm script kinds t → IsFaulty script t c → c ≢ IllKinded
  faulty_no_misfit t c h faulty e = no_misfit t h (faulty.cause ∙ ap Some e)

  pub reached_no_misfit : (p : Process) (c : Cause) → IsClosedTerm script kinds p → SomeReachable script p (λ t. IsFaulty script t c) → c ≢ IllKinded
  reached_no_misfit p c h (path, t, run, faulty) = faulty_no_misfit t c (run_closed script kinds good.sets good.equations path p t run h) faulty

  pub goes_on : (t : Process) → IsClosedTerm script kinds t → IsNotStuck script t ⊎ (((c : Cause) × IsFaulty script t c × (c ≢ IllKinded)) ⊎ IsLarge script t)
  goes_on t h = by_size (cases_Bool (fits t))
    where
      by_steps : fits t ≡ true → cause_in script t ≡ None → ((x : Action) (u : Process) → IsOneOf (rule_steps script t) x u → IsTrue (fits u)) ⊎
          ((x : Action) × (u : Process) × IsOneOf (rule_steps script t) x u × IsFalse (fits u)) →
          IsNotStuck script t ⊎ (((c : Cause) × IsFaulty script t c × (c ≢ IllKinded)) ⊎ IsLarge script t)
      by_steps within none (inl all) = inl (record { within = within; no_cause = none; targets = λ x u step. all x u ((exact script t x u).0 step) })
      by_steps within none (inr some) = inr (inr (by_step none (some.0, some.1, (exact script t some.0 some.1).1 some.2, some.3)))

      by_cause : fits t ≡ true → (o : Option Cause) → cause_in script t ≡ o → IsNotStuck script t ⊎ (((c : Cause) × IsFaulty script t c × (c ≢ IllKinded)) ⊎ IsLarge script t)
      by_cause within (Some c) is = let faulty : IsFaulty script t c = record { within = within; cause = is } in inr (inl (c, faulty, faulty_no_misfit t c h faulty))
      by_cause within None is = by_steps within is (all_fit (rule_steps script t))

      by_size : (fits t ≡ true) ⊎ (fits t ≡ false) → IsNotStuck script t ⊎ (((c : Cause) × IsFaulty script t c × (c ≢ IllKinded)) ⊎ IsLarge script t)
      by_size (inl within) = by_cause within (cause_in script t) refl
      by_size (inr past) = inr (inr (itself past))
