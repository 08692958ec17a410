-- A stuck term is reached in one reading where one is in the other.
use Rattle.std.proofs.Common.{◌≡◌, ◌⊎◌, inl, inr, ⊎_elim, true, false, ℕ, List, [], ◌∷◌, ◌++◌, refl, sym, ◌∙◌, subst, arith, Option, Some, None, IsTrue, IsFalse}
use Rattle.std.proofs.lemmas.Bool.{cases_Bool}
use Rattle.std.specs.Prelude.{◌↔◌, IfSome}
use Rattle.theory_syntax.specs.Value.{Action, Tau}
use Rattle.theory_syntax.specs.Process.{Process, Property, specification_of, Assertion, ByTau, AtOnce, Script}
use Rattle.theory_semantics.specs.Meaning.Evaluation.{Cause}
use Rattle.theory_semantics.specs.Meaning.Limits.{fits}
use Rattle.theory_semantics.specs.Meaning.Faults.{cause_in}
use Rattle.theory_semantics.specs.Meaning.Unfolding.{most_unfoldings}
use Rattle.theory_semantics.specs.Meaning.Transitions.{RuleStep, itself, by_step, IsStuck, faulty, large, IsNotStuck}
use Rattle.theory_semantics.specs.Meaning.Runs.{Run, SomeReachable, NoneStuck}
use Rattle.theory_semantics.specs.Meaning.Stepping.{rule_steps}
use Rattle.theory_semantics.specs.Laws.Statements.{IsOneOf}
use Rattle.theory_semantics.proofs.Stepping.{exact}
use Rattle.theory_semantics.proofs.ClosedTerms.{all_fit}
use Rattle.theory_semantics.proofs.Running.{Run-snoc}
use Rattle.theory_syntax.specs.Readings.{by_tau, at_once}
use Rattle.theory_unfolding.specs.Assertions.{IsUnfoldedProperty, of_refinement, of_deadlock, of_divergence, IsUnfoldedAssertion, SidesNeverStick}
use Rattle.theory_unfolding.specs.Unfolded.{IsUnfoldedTo}
use Rattle.theory_unfolding.proofs.Readings.{same_cause}
use Rattle.theory_unfolding.proofs.Following.{Follows, followed}
use Rattle.theory_unfolding.proofs.Reaching.{Taus, there, on, reached}
use Rattle.theory_unfolding.proofs.Running.{run_on, run_back, step_back, not_stuck_before}

-- each term has all the steps of its rules or is stuck
pub stuck_or_not : (script : Script) (t : Process) → IsNotStuck script t ⊎ IsStuck script t
stuck_or_not script t = by_size (cases_Bool (fits t))
  where
    by_steps : fits t ≡ true → cause_in script t ≡ None → ((x : Action) (u : Process) → IsOneOf (rule_steps script t) x u → IsTrue (fits u)) ⊎
        ((x : Action) × (u : Process) × IsOneOf (rule_steps script t) x u × IsFalse (fits u)) → IsNotStuck script t ⊎ IsStuck script t
    by_steps within none (inl all) = inl (record { within = within; no_cause = none; targets = λ x u step. all x u ((exact script t x u).0 step) })
    by_steps within none (inr some) = inr (large (by_step none (some.0, some.1, (exact script t some.0 some.1).1 some.2, some.3)))

    by_cause : fits t ≡ true → (o : Option Cause) → cause_in script t ≡ o → IsNotStuck script t ⊎ IsStuck script t
    by_cause within (Some c) is = inr (faulty c (record { within = within; cause = is }))
    by_cause within None is = by_steps within is (all_fit (rule_steps script t))

    by_size : (fits t ≡ true) ⊎ (fits t ≡ false) → IsNotStuck script t ⊎ IsStuck script t
    by_size (inl within) = by_cause within (cause_in script t) refl
    by_size (inr past) = inr (large (itself past))

not_both : (script : Script) (t : Process) → IsNotStuck script t → IsStuck script t → ⊥
not_both script t is (faulty c h) = let e = sym is.no_cause ∙ h.cause in cc e
not_both script t is (large (itself past)) = let e = sym is.within ∙ past in cc e
not_both script t is (large (by_step none h)) = let e = sym (is.targets h.0 h.1 h.2) ∙ h.3 in cc e

module _ (s : Script) where
  -- ---- from names at once to names by tau

  -- taus that lead to their end, or to a stuck term before it
  walk : (start v : Process) (path : List Action) {t u : Process} {n k : ℕ} → Run (by_tau s) start path t → Taus s v n k t u →
      SomeReachable (by_tau s) start (IsStuck (by_tau s)) ⊎ ((p : List Action) × Run (by_tau s) start p u)
  walk start v path run there = inr (path, run)
  walk start v path {t = t} run (on {m = m} h d rest) = ⊎_elim
      (λ is. walk start v (path ++ Tau ∷ []) (Run-snoc (by_tau s) path start t m Tau run (is, h)) rest)
      (λ stuck. inl (path, t, run, stuck))
      (stuck_or_not (by_tau s) t)

  sticks_at : (start : Process) (u : Process) → IsStuck (by_tau s) u → SomeReachable (by_tau s) start (IsStuck (by_tau s)) ⊎ ((p : List Action) × Run (by_tau s) start p u) →
      SomeReachable (by_tau s) start (IsStuck (by_tau s))
  sticks_at start u stuck (inl found) = found
  sticks_at start u stuck (inr run) = (run.0, u, run.1, stuck)

  -- a step past the limits
  sticks_past : (start : Process) (path : List Action) (u y : Process) (x : Action) → Run (by_tau s) start path u → RuleStep (at_once s) u x y → IsFalse (fits y) →
      SomeReachable (by_tau s) start (IsStuck (by_tau s))
  sticks_past start path u y x run h past =
      let k = step_back s u x y h in
      ⊎_elim
      (λ is. sticks_at start y (large (itself past)) (walk start y (path ++ x ∷ []) (Run-snoc (by_tau s) path start u k.0 x run (is, k.1)) (reached s k.2.1)))
      (λ stuck. (path, u, run, stuck))
      (stuck_or_not (by_tau s) u)

  sticks_end : (start : Process) (u : Process) → IsStuck (at_once s) u → SomeReachable (by_tau s) start (IsStuck (by_tau s)) ⊎ ((p : List Action) × Run (by_tau s) start p u) →
      SomeReachable (by_tau s) start (IsStuck (by_tau s))
  sticks_end start u stuck (inl found) = found
  sticks_end start u (faulty c h) (inr run) = (run.0, u, run.1, faulty c (record { within = h.within; cause = same_cause s ByTau AtOnce u ∙ h.cause }))
  sticks_end start u (large (itself past)) (inr run) = (run.0, u, run.1, large (itself past))
  sticks_end start u (large (by_step none h)) (inr run) = sticks_past start run.0 u h.1 h.0 run.1 h.2 h.3

  pub stuck_back : (t v : Process) → IsUnfoldedTo s t v → SomeReachable (at_once s) v (IsStuck (at_once s)) → SomeReachable (by_tau s) t (IsStuck (by_tau s))
  stuck_back t v d (path, u, run, stuck) = let r = run_back s path t v u d run in sticks_end t u stuck (walk t u r.0 r.2 (reached s r.4.1))

  -- ---- and the other way round

  abbrev SticksOn : Process → Type 0
  SticksOn v = SomeReachable (at_once s) v (IsStuck (at_once s))

  one_step : (x : Action) (m v : Process) (k : ℕ) → IsNotStuck (at_once s) v → ((z : Process) → IsUnfoldedTo s m z → SticksOn z) → Follows s most_unfoldings k v x m → SticksOn v
  one_step x m v k is rest (inl h) = rest v (h.1, h.3)
  one_step x m v k is rest (inr h) = let r = rest h.0 h.2 in (x ∷ r.0, r.1, (h.0, (is, h.1), r.2), r.3)

  sticks_on : (path : List Action) (t w v : Process) → IsUnfoldedTo s t v → Run (by_tau s) t path w → IsStuck (by_tau s) w → SticksOn v
  sticks_on [] t w v d run stuck = ⊎_elim
      (λ is. absurd (not_both (by_tau s) w (let P : Process → Type 0 = λ z. IsNotStuck (by_tau s) z in subst P run (not_stuck_before s (omega arith) d.1 is)) stuck))
      (λ here. ([], v, refl, here))
      (stuck_or_not (at_once s) v)
  sticks_on (x ∷ path) t w v d run stuck = ⊎_elim
      (λ is. one_step x run.0 v d.0 is (λ z e. sticks_on path run.0 w z e run.2 stuck) (followed s most_unfoldings (omega arith) t v d.1 x run.0 run.1.1))
      (λ here. ([], v, refl, here))
      (stuck_or_not (at_once s) v)

  pub stuck_on : (t v : Process) → IsUnfoldedTo s t v → SomeReachable (by_tau s) t (IsStuck (by_tau s)) → SomeReachable (at_once s) v (IsStuck (at_once s))
  stuck_on t v d (path, w, run, stuck) = sticks_on path t w v d run stuck

  -- ---- none

  pub none_stuck_on : (t v : Process) → IsUnfoldedTo s t v → NoneStuck (by_tau s) t → NoneStuck (at_once s) v
  none_stuck_on t v d none path u run = ⊎_elim (λ is. is)
      (λ stuck. let found = stuck_back t v d (path, u, run, stuck) in absurd (not_both (by_tau s) found.1 (none found.0 found.1 found.2) found.3))
      (stuck_or_not (at_once s) u)

  pub none_stuck_back : (t v : Process) → IsUnfoldedTo s t v → NoneStuck (at_once s) v → NoneStuck (by_tau s) t
  none_stuck_back t v d none path w run = let r = run_on s path t w v d none run in not_stuck_before s (omega arith) r.4.1 (none r.0 r.1 r.2)

  -- ---- the sides of an assertion

  specifications_on : (p q : Property) → IsUnfoldedProperty s p q → IfSome (specification_of p) (NoneStuck (by_tau s)) → IfSome (specification_of q) (NoneStuck (at_once s))
  specifications_on _ _ (of_refinement {spec = spec} {new_spec = new_spec} d) none = none_stuck_on spec new_spec d none
  specifications_on _ _ of_deadlock none = tt
  specifications_on _ _ of_divergence none = tt

  specifications_back : (p q : Property) → IsUnfoldedProperty s p q → IfSome (specification_of q) (NoneStuck (at_once s)) → IfSome (specification_of p) (NoneStuck (by_tau s))
  specifications_back _ _ (of_refinement {spec = spec} {new_spec = new_spec} d) none = none_stuck_back spec new_spec d none
  specifications_back _ _ of_deadlock none = tt
  specifications_back _ _ of_divergence none = tt

  pub sides_same : (a b : Assertion) → IsUnfoldedAssertion s a b → SidesNeverStick (at_once s) b ↔ SidesNeverStick (by_tau s) a
  sides_same a b d = (
    λ none. record {
      specification = specifications_back a.property b.property d.property none.specification;
      implementation = none_stuck_back a.implementation b.implementation d.implementation none.implementation;
    },
    λ none. record {
      specification = specifications_on a.property b.property d.property none.specification;
      implementation = none_stuck_on a.implementation b.implementation d.implementation none.implementation;
    },
  )
