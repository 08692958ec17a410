-- Deadlock and divergence of small terms.
use Rattle.std.proofs.Common.{◌≡◌, ℕ, zero, suc, replicate, List, [], ◌∷◌, length, refl, sym, ap, subst, inl, inr, ◌⊎◌, IsTrue, arith}
use Rattle.std.specs.declared.cmp.Ordering.TheVariants.{Less}
use Rattle.std.specs.Ordering.{is_le, ordering_then}
use Rattle.std.specs.Cmp.{nat_cmp_is}
use Rattle.std.specs.Cmp.Lexicographic.{slice_cmp}
use Rattle.theory_syntax.specs.Value.{Action, Tau, Tick, action_cmp}
use Rattle.theory_syntax.specs.Process.{Process, Stop, Skip, Omega, GeneralisedParallel}
use Rattle.theory_semantics.specs.Meaning.Transitions.{RuleStep}
use Rattle.theory_semantics.specs.Meaning.Runs.{Run}
use Rattle.theory_semantics.specs.Meaning.Offers.{IsAcceptance}
use Rattle.theory_semantics.specs.Meaning.Divergence.{Diverges, IsDeadlocked}
use Rattle.theory_semantics.specs.Meaning.Properties.{IsDeadlockFree, IsDivergenceFree}
use Rattle.theory_semantics.specs.Meaning.Violations.{Evidence, ByEvent, ByOffers, ByDeadlock, ByDivergence, IsViolation, evidence_cmp, violation_cmp, IsLeastViolation}
use Rattle.theory_semantics.specs.Meaning.Stepping.{rule_steps}
use Rattle.theory_semantics.specs.Laws.Statements.{IsOneOf}
use Rattle.theory_semantics.specs.Laws.Terms.{letters, letter, plain, just, looping, repeating, repeated, without_a, a_waits, deadlock_free, divergence_free, at_once, after_path}
use Rattle.theory_semantics.proofs.Stepping.{exact}
use Rattle.theory_semantics.proofs.Offering.{free, stable}
use Rattle.theory_semantics.proofs.WorkedRows.{P, stays, unfolding_offers, skip_run, skip_offers, stop_deadlocked, looping_diverges}

-- a violation before any step is the least one, where no other has lesser evidence there
longer_is_more : (y : Action) (path : List Action) (e f : Evidence) → IsTrue (is_le (violation_cmp (at_once e) (after_path (y ∷ path) f)))
longer_is_more y path e f = ap (λ r. is_le (ordering_then (ordering_then r (slice_cmp action_cmp [] (y ∷ path))) (evidence_cmp e f))) (sym (nat_cmp_is 0 (suc (length path)) Less (omega arith)))

no_lesser_deadlock : (path : List Action) (e : Evidence) → IsViolation (letters []) (deadlock_free Stop) (after_path path e) → IsTrue (is_le (violation_cmp (at_once ByDeadlock) (after_path path e)))
no_lesser_deadlock [] (ByEvent x) is = absurd is.evidence
no_lesser_deadlock [] (ByOffers xs) is = absurd is.evidence
no_lesser_deadlock [] ByDeadlock is = refl
no_lesser_deadlock [] ByDivergence is = absurd is.evidence
no_lesser_deadlock (y ∷ path) e is = longer_is_more y path ByDeadlock e

-- `STOP :[deadlock free]`
pub stop_violates : IsLeastViolation (letters []) (deadlock_free Stop) (at_once ByDeadlock)
stop_violates = record {
  violation = record { end = Stop; run = refl; known = tt; evidence = stop_deadlocked };
  least = λ w is. no_lesser_deadlock w.path w.evidence is;
}

-- `SKIP :[deadlock free]`: ended is not deadlocked
pub skip_is_free : IsDeadlockFree (letters []) Skip
skip_is_free path u run = by (skip_run path u run)
  where
    by : ((u ≡ Skip) × (path ≡ [])) ⊎ ((u ≡ Omega) × (path ≡ Tick ∷ [])) → ¬ IsDeadlocked (letters []) u
    by (inl e) dead =
        let Q : Process → Type 0 = λ p. IsAcceptance (letters []) p [] in
        let offers : IsAcceptance (letters []) Skip [] = subst Q e.0 dead.1 in
        let none = skip_offers [] offers in
        cc none
    by (inr e) dead = dead.0 e.0

-- `P = P`
pub unfolding_is_free : IsDeadlockFree looping P
unfolding_is_free path u run dead = let Q : Process → Type 0 = λ p. IsAcceptance looping p [] in unfolding_offers [] (subst Q (stays path u run).0 dead.1)

-- `(a -> SKIP) [| {a} |] (b -> SKIP)`: after b the right side ends, and the left one waits
abbrev behind_b : Process
behind_b = GeneralisedParallel (plain 0 Skip) (just 0) Skip

abbrev waiting : Process
waiting = GeneralisedParallel (plain 0 Skip) (just 0) Omega

waiting_is_not_omega : waiting ≡ Omega → ⊥
waiting_is_not_omega e = cc e

pub waits_violates : IsViolation (letters []) (deadlock_free a_waits) (after_path (letter 1 ∷ Tau ∷ []) ByDeadlock)
waits_violates = record {
  end = waiting;
  run = (
    behind_b,
    (free (letters []) a_waits refl, (exact (letters []) a_waits (letter 1) behind_b).1 (inl (refl, refl))),
    (waiting, (free (letters []) behind_b refl, (exact (letters []) behind_b Tau waiting).1 (inl (refl, refl))), refl),
  );
  known = tt;
  evidence = (waiting_is_not_omega, stable (letters []) waiting [] refl refl tt);
}

-- ---- divergence

no_lesser_divergence : (path : List Action) (e : Evidence) → IsViolation looping (divergence_free P) (after_path path e) → IsTrue (is_le (violation_cmp (at_once ByDivergence) (after_path path e)))
no_lesser_divergence [] (ByEvent x) is = absurd is.evidence
no_lesser_divergence [] (ByOffers xs) is = absurd is.evidence
no_lesser_divergence [] ByDeadlock is = absurd is.evidence
no_lesser_divergence [] ByDivergence is = refl
no_lesser_divergence (y ∷ path) e is = longer_is_more y path ByDivergence e

-- `P :[divergence free]` with `P = P`
pub unfolding_violates : IsLeastViolation looping (divergence_free P) (at_once ByDivergence)
unfolding_violates = record {
  violation = record { end = P; run = refl; known = tt; evidence = looping_diverges };
  least = λ w is. no_lesser_divergence w.path w.evidence is;
}

-- with `P = a -> P`
abbrev ready : Process
ready = plain 0 repeated

abbrev IsRepeated : Process → Type 0
IsRepeated u = (u ≡ repeated) ⊎ (u ≡ ready)

unfolds : (x : Action) (u : Process) → RuleStep repeating repeated x u → (x ≡ Tau) × (u ≡ ready)
unfolds x u h = by ((exact repeating repeated x u).0 h)
  where
    by : IsOneOf (rule_steps repeating repeated) x u → (x ≡ Tau) × (u ≡ ready)
    by (inl e) = e
    by (inr e) = absurd e

goes_round : (x : Action) (u : Process) → RuleStep repeating ready x u → (x ≡ letter 0) × (u ≡ repeated)
goes_round x u h = by ((exact repeating ready x u).0 h)
  where
    by : IsOneOf (rule_steps repeating ready) x u → (x ≡ letter 0) × (u ≡ repeated)
    by (inl e) = e
    by (inr e) = absurd e

steps_stay : (t : Process) (x : Action) (u : Process) → IsRepeated t → RuleStep repeating t x u → IsRepeated u
steps_stay t x u (inl e) h = let Q : Process → Type 0 = λ p. RuleStep repeating p x u in inr (unfolds x u (subst Q e h)).1
steps_stay t x u (inr e) h = let Q : Process → Type 0 = λ p. RuleStep repeating p x u in inl (goes_round x u (subst Q e h)).1

runs_stay : (path : List Action) (t u : Process) → IsRepeated t → Run repeating t path u → IsRepeated u
runs_stay [] t u is run = subst IsRepeated run is
runs_stay (x ∷ path) t u is run = runs_stay path run.0 u (steps_stay t x run.0 is run.1.1) run.2

no_tau : (u : Process) → RuleStep repeating ready Tau u → ⊥
no_tau u h = let e = (goes_round Tau u h).0 in cc e

pub repeating_is_free : IsDivergenceFree repeating repeated
repeating_is_free path u run = by (runs_stay path repeated u (inl refl) run)
  where
    by : IsRepeated u → ¬ Diverges repeating u
    by (inl e) long =
        let two = (long 2).1 in
        let Q : Process → Type 0 = λ p. RuleStep repeating p Tau two.0 in
        let R : Process → Type 0 = λ p. RuleStep repeating p Tau two.2.0 in
        no_tau two.2.0 (subst R (unfolds Tau two.0 (subst Q e two.1.1)).1 two.2.1.1)
    by (inr e) long =
        let one = (long 1).1 in
        let Q : Process → Type 0 = λ p. RuleStep repeating p Tau one.0 in
        no_tau one.0 (subst Q e one.1.1)

-- `a -> (P \ {a}) :[divergence free]`
mutual
  hidden_diverges : (n : ℕ) → (u : Process) × Run repeating (without_a repeated) (replicate n Tau) u
  hidden_diverges zero = (without_a repeated, refl)
  hidden_diverges (suc n) =
      let rest = ready_diverges n in
      (rest.0, (without_a ready, (free repeating (without_a repeated) refl, (exact repeating (without_a repeated) Tau (without_a ready)).1 (inl (refl, refl))), rest.1))

  ready_diverges : (n : ℕ) → (u : Process) × Run repeating (without_a ready) (replicate n Tau) u
  ready_diverges zero = (without_a ready, refl)
  ready_diverges (suc n) =
      let rest = hidden_diverges n in
      (rest.0, (without_a repeated, (free repeating (without_a ready) refl, (exact repeating (without_a ready) Tau (without_a repeated)).1 (inl (refl, refl))), rest.1))

pub hidden_violates : IsViolation repeating (divergence_free (plain 0 (without_a repeated))) (after_path (letter 0 ∷ []) ByDivergence)
hidden_violates = record {
  end = without_a repeated;
  run = (without_a repeated, (free repeating (plain 0 (without_a repeated)) refl, (exact repeating (plain 0 (without_a repeated)) (letter 0) (without_a repeated)).1 (inl (refl, refl))), refl);
  known = tt;
  evidence = hidden_diverges;
}
