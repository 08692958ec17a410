-- A guard, a condition or a replicated form has the steps of the process that it stands for, and no cause where that has none.
use Rattle.std.proofs.Common.{◌≡◌, ◌⊎◌, inl, inr, ⊎_elim, ℕ, Bool, true, false, List, refl, sym, subst, Some, Result, Ok, Err}
use Rattle.theory_syntax.specs.Value.{Value, Action}
use Rattle.theory_syntax.specs.Process.{Process, Stop, Skip, Guard, If, ExternalChoice, Interleaving, ReplicatedExternalChoice, ReplicatedInterleaving, Script}
use Rattle.theory_semantics.specs.Meaning.Evaluation.{Cause}
use Rattle.theory_semantics.specs.Meaning.Events.{condition, elements, instances}
use Rattle.theory_semantics.specs.Meaning.Chains.{chain}
use Rattle.theory_semantics.specs.Meaning.Unfolding.{where_true, picked, chained, stands_for}
use Rattle.theory_semantics.specs.Meaning.Transitions.{RuleStep, guard, if_true, if_false, replicated_external, replicated_interleaving}
use Rattle.theory_syntax.specs.Readings.{by_tau}

some_same : {p q : Process} → Some p ≡ Some q → p ≡ q
some_same e = cc e

-- what a call of a function on a known result stands for
true_is : (r : Result Bool Cause) (p q : Process) → where_true r p ≡ Some q → r ≡ Ok true → p ≡ q
true_is r p q e is = let P : Result Bool Cause → Type 0 = λ r. where_true r p ≡ Some q in some_same (subst P is e)

first_is : (r : Result Bool Cause) (p o q : Process) → picked r p o ≡ Some q → r ≡ Ok true → p ≡ q
first_is r p o q e is = let P : Result Bool Cause → Type 0 = λ r. picked r p o ≡ Some q in some_same (subst P is e)

second_is : (r : Result Bool Cause) (p o q : Process) → picked r p o ≡ Some q → r ≡ Ok false → o ≡ q
second_is r p o q e is = let P : Result Bool Cause → Type 0 = λ r. picked r p o ≡ Some q in some_same (subst P is e)

chain_is : (op : Process → Process → Process) (empty : Process) (n : ℕ) (p : Process) (r : Result (List Value) Cause) (q : Process) (vs : List Value) →
    chained op empty n p r ≡ Some q → r ≡ Ok vs → chain op empty (instances n p vs) ≡ q
chain_is op empty n p r q vs e is = let P : Result (List Value) Cause → Type 0 = λ r. chained op empty n p r ≡ Some q in some_same (subst P is e)

true_of : (r : Result Bool Cause) (p q : Process) → where_true r p ≡ Some q → (r ≡ Ok true) × (q ≡ p)
true_of (Ok true) p q e = (refl, sym (some_same e))
true_of (Ok false) p q e = absurd (cc e)
true_of (Err c) p q e = absurd (cc e)

picked_of : (r : Result Bool Cause) (p o q : Process) → picked r p o ≡ Some q → ((r ≡ Ok true) × (q ≡ p)) ⊎ ((r ≡ Ok false) × (q ≡ o))
picked_of (Ok true) p o q e = inl (refl, sym (some_same e))
picked_of (Ok false) p o q e = inr (refl, sym (some_same e))
picked_of (Err c) p o q e = absurd (cc e)

chain_of : (op : Process → Process → Process) (empty : Process) (n : ℕ) (p : Process) (r : Result (List Value) Cause) (q : Process) →
    chained op empty n p r ≡ Some q → (vs : List Value) × (r ≡ Ok vs) × (q ≡ chain op empty (instances n p vs))
chain_of op empty n p (Ok vs) q e = (vs, refl, sym (some_same e))
chain_of op empty n p (Err c) q e = absurd (cc e)

module _ (s : Script) where
  step_along : (p q : Process) (x : Action) (w : Process) → p ≡ q → RuleStep (by_tau s) p x w → RuleStep (by_tau s) q x w
  step_along p q x w e h = let P : Process → Type 0 = λ z. RuleStep (by_tau s) z x w in subst P e h

  pub stand_step : (t q : Process) (x : Action) (w : Process) → stands_for s t ≡ Some q → RuleStep (by_tau s) t x w → RuleStep (by_tau s) q x w
  stand_step t q x w e (guard {e = c} {p = p} is h) = step_along p q x w (true_is (condition s.types c) p q e is) h
  stand_step t q x w e (if_true {e = c} {p = p} {q = o} is h) = step_along p q x w (first_is (condition s.types c) p o q e is) h
  stand_step t q x w e (if_false {e = c} {p = p} {q = o} is h) = step_along o q x w (second_is (condition s.types c) p o q e is) h
  stand_step t q x w e (replicated_external {n = n} {e = c} {p = p} vs is h) =
      step_along (chain ExternalChoice Stop (instances n p vs)) q x w (chain_is ExternalChoice Stop n p (elements s.types c) q vs e is) h
  stand_step t q x w e (replicated_interleaving {n = n} {e = c} {p = p} vs is h) =
      step_along (chain Interleaving Skip (instances n p vs)) q x w (chain_is Interleaving Skip n p (elements s.types c) q vs e is) h
  stand_step t q x w e h = absurd (cc e)

  pub step_stand : (t q : Process) (x : Action) (w : Process) → stands_for s t ≡ Some q → RuleStep (by_tau s) q x w → RuleStep (by_tau s) t x w
  step_stand (Guard c p) q x w e h = let o = true_of (condition s.types c) p q e in guard o.0 (step_along q p x w o.1 h)
  step_stand (If c p r) q x w e h = ⊎_elim (λ o. if_true o.0 (step_along q p x w o.1 h)) (λ o. if_false o.0 (step_along q r x w o.1 h)) (picked_of (condition s.types c) p r q e)
  step_stand (ReplicatedExternalChoice n c p) q x w e h =
      let o = chain_of ExternalChoice Stop n p (elements s.types c) q e in replicated_external o.0 o.1 (step_along q (chain ExternalChoice Stop (instances n p o.0)) x w o.2 h)
  step_stand (ReplicatedInterleaving n c p) q x w e h =
      let o = chain_of Interleaving Skip n p (elements s.types c) q e in replicated_interleaving o.0 o.1 (step_along q (chain Interleaving Skip (instances n p o.0)) x w o.2 h)
  step_stand t q x w e h = absurd (cc e)
