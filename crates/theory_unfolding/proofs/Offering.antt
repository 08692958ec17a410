-- What a term offers in one reading, and what it is unfolded to in the other.
use Rattle.std.proofs.Common.{◌≡◌, ◌≢◌, inl, inr, ℕ, zero, suc, List, [], refl, subst, arith}
use Rattle.theory_syntax.specs.Value.{Action, Tau, Tick}
use Rattle.theory_syntax.specs.Process.{Process, Omega, Script}
use Rattle.theory_semantics.specs.Meaning.Unfolding.{most_unfoldings}
use Rattle.theory_semantics.specs.Meaning.Transitions.{RuleStep, IsVisible, IsNotStuck}
use Rattle.theory_semantics.specs.Meaning.Offers.{CanDo, IsStable, IsAllThat, IsAcceptance, of_stable, of_tick}
use Rattle.theory_semantics.specs.Meaning.Divergence.{IsDeadlocked}
use Rattle.theory_syntax.specs.Readings.{by_tau, at_once}
use Rattle.theory_unfolding.specs.Unfolded.{IsUnfoldedTo}
use Rattle.theory_unfolding.proofs.Counting.{none_unfolded}
use Rattle.theory_unfolding.proofs.Following.{Follows, followed}
use Rattle.theory_unfolding.proofs.Reaching.{Taus, on, reached}
use Rattle.theory_unfolding.proofs.Running.{step_back, step_on, same_not_stuck}

module _ (s : Script) where
  -- ---- one term in both readings

  pub can_back : (t : Process) (x : Action) → CanDo (at_once s) t x → CanDo (by_tau s) t x
  can_back t x can = let h = step_back s t x can.0 can.1.1 in (h.0, (same_not_stuck s t can.1.0, h.1))

  pub can_same : (t : Process) (x : Action) → IsNotStuck (at_once s) t → CanDo (by_tau s) t x → CanDo (at_once s) t x
  can_same t x is can = let h = step_on s t x can.0 can.1.1 in (h.0, (is, h.1))

  stable_back : (t : Process) → IsStable (at_once s) t → IsStable (by_tau s) t
  stable_back t is = record { not_stuck = same_not_stuck s t is.not_stuck; no_tau = λ w h. let k = step_on s t Tau w h in is.no_tau k.0 k.1 }

  stable_same : (t : Process) → IsNotStuck (at_once s) t → IsStable (by_tau s) t → IsStable (at_once s) t
  stable_same t still is = record { not_stuck = still; no_tau = λ u h. let k = step_back s t Tau u h in is.no_tau k.0 k.1 }

  pub accepts_back : (t : Process) (xs : List Action) → IsAcceptance (at_once s) t xs → IsAcceptance (by_tau s) t xs
  accepts_back t xs (of_stable is all) = of_stable (stable_back t is)
      (record { rising = all.rising; each = λ x. (λ h. can_back t x ((all.each x).0 h), λ can. (all.each x).1 (can_same t x is.not_stuck can)) })
  accepts_back t xs (of_tick can) = of_tick (can_back t Tick can)

  accepts_same : (t : Process) (xs : List Action) → IsNotStuck (at_once s) t → IsStable (by_tau s) t → IsAllThat (by_tau s) t xs → IsAcceptance (at_once s) t xs
  accepts_same t xs still is all = of_stable (stable_same t still is)
      (record { rising = all.rising; each = λ x. (λ h. can_same t x still ((all.each x).0 h), λ can. (all.each x).1 (can_back t x can)) })

  -- ---- a term and what it is unfolded to

  first_tau : (t v : Process) (n k : ℕ) → Taus s v n (suc k) t v → (m : Process) × RuleStep (by_tau s) t Tau m
  first_tau t v n k (on {m = m} h d rest) = (m, h)

  -- a stable term has no call to unfold
  pub stable_is_settled : (t v : Process) → IsStable (by_tau s) t → IsUnfoldedTo s t v → t ≡ v
  stable_is_settled t v is (zero, d) = none_unfolded s d refl
  stable_is_settled t v is (suc k, d) = absurd (let h = first_tau t v most_unfoldings k (reached s d) in is.no_tau h.0 h.1)

  pub can_on : (t v : Process) (x : Action) → IsVisible x → IsUnfoldedTo s t v → IsNotStuck (at_once s) v → CanDo (by_tau s) t x → CanDo (at_once s) v x
  can_on t v x visible d still can = by_case (followed s most_unfoldings (omega arith) t v d.1 x can.0 can.1.1)
    where
      by_case : Follows s most_unfoldings d.0 v x can.0 → CanDo (at_once s) v x
      by_case (inl h) = absurd (subst IsVisible h.0 visible)
      by_case (inr h) = (h.0, (still, h.1))

  pub accepts_on : (t v : Process) (xs : List Action) → IsUnfoldedTo s t v → IsNotStuck (at_once s) v → IsAcceptance (by_tau s) t xs → IsAcceptance (at_once s) v xs
  accepts_on t v xs d still (of_stable is all) =
      let e = stable_is_settled t v is d in
      let P : Process → Type 0 = λ z. IsStable (by_tau s) z in let Q : Process → Type 0 = λ z. IsAllThat (by_tau s) z xs in
      accepts_same v xs still (subst P e is) (subst Q e all)
  accepts_on t v xs d still (of_tick can) = of_tick (can_on t v Tick tt d still can)

  -- ---- deadlock

  pub deadlocked_back : (t : Process) → IsDeadlocked (at_once s) t → IsDeadlocked (by_tau s) t
  deadlocked_back t is = (is.0, accepts_back t [] is.1)

  none_is_stable : (t : Process) → IsAcceptance (by_tau s) t [] → IsStable (by_tau s) t
  none_is_stable t (of_stable is all) = is

  pub deadlocked_on : (t v : Process) → IsUnfoldedTo s t v → IsNotStuck (at_once s) v → IsDeadlocked (by_tau s) t → IsDeadlocked (at_once s) v
  deadlocked_on t v d still is =
      let e = stable_is_settled t v (none_is_stable t is.1) d in
      let P : Process → Type 0 = λ z. z ≢ Omega in (subst P e is.0, accepts_on t v [] d still is.1)
