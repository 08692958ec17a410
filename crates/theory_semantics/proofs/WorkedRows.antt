-- Refinements and violations of small assertions.
use Rattle.std.proofs.Common.{◌≡◌, ℕ, zero, suc, replicate, Bool, true, false, not, ◌||◌, List, [], ◌∷◌, length, refl, sym, ◌∙◌, ap, subst, inl, inr, ◌⊎◌, IsTrue, arith}
use Rattle.std.specs.declared.cmp.Ordering.TheVariants.{Less}
use Rattle.std.specs.Ordering.{is_le, ordering_then}
use Rattle.std.specs.Cmp.{nat_cmp_is}
use Rattle.std.specs.Cmp.Lexicographic.{slice_cmp}
use Rattle.theory_syntax.specs.Value.{Action, Tau, Tick, Ev, action_cmp, action_eq, has_action}
use Rattle.theory_syntax.specs.Expression.{no_expressions}
use Rattle.theory_syntax.specs.Process.{Process, Stop, Skip, Omega, Call, ExternalChoice, Traces, Failures, RefinementOf, Assertion, Script}
use Rattle.theory_semantics.specs.Meaning.Transitions.{RuleStep, Step}
use Rattle.theory_semantics.specs.Meaning.Runs.{Run, trace, IsTrace}
use Rattle.theory_semantics.specs.Meaning.Offers.{CanDo, IsAcceptance, of_stable, of_tick, Refusal, AllBut, IsFailure}
use Rattle.theory_semantics.specs.Meaning.Properties.{HoldsPlainly}
use Rattle.theory_semantics.specs.Meaning.Violations.{Evidence, ByEvent, ByOffers, ByDeadlock, ByDivergence, Violation, IsViolation, IsAllowed, evidence_cmp, violation_cmp, IsLeastViolation, HoldsAsWritten}
use Rattle.theory_semantics.specs.Meaning.Divergence.{IsDeadlocked}
use Rattle.theory_semantics.specs.Meaning.Stepping.{rule_steps}
use Rattle.theory_semantics.specs.Laws.Statements.{IsOneOf}
use Rattle.theory_semantics.specs.Laws.Terms.{letters, letter, plain, looping, in_traces, negation_of, guarded_stop}
use Rattle.theory_semantics.proofs.Running.{empty_trace}
use Rattle.theory_semantics.proofs.Stepping.{exact}
use Rattle.theory_semantics.proofs.Offering.{free, stable, action_same}
use Rattle.theory_semantics.proofs.Refining.{holds_from_allowed, refuses_rest}

-- `STOP` goes nowhere
pub stop_run : (s : Script) (path : List Action) (u : Process) → Run s Stop path u → (path ≡ []) × (u ≡ Stop)
stop_run s [] u run = (refl, sym run)
stop_run s (x ∷ path) u run = absurd ((exact s Stop x run.0).0 run.1.1)

stop_trace : (s : Script) (x : Action) (z : List Action) → IsTrace s Stop (x ∷ z) → ⊥
stop_trace s x z is =
    let e : trace is.1.0 ≡ x ∷ z = is.1.2 in
    let f : is.1.0 ≡ [] = (stop_run s is.1.0 is.0 is.1.1).0 in
    let g : trace is.1.0 ≡ [] = ap trace f in
    cc (e, g)

pub a_can : CanDo (letters []) (plain 0 Stop) (letter 0)
a_can = (Stop, (free (letters []) (plain 0 Stop) refl, (exact (letters []) (plain 0 Stop) (letter 0) Stop).1 (inl (refl, refl))))

abbrev a_beyond_stop : Assertion
a_beyond_stop = record { negated = false; property = RefinementOf Traces Stop; implementation = plain 0 Stop }

abbrev pub first_event : Violation
first_event = record { path = []; evidence = ByEvent (letter 0) }

a_violates : IsViolation (letters []) a_beyond_stop first_event
a_violates = record {
  end = plain 0 Stop;
  run = refl;
  known = empty_trace (letters []) Stop;
  evidence = (tt, a_can, stop_trace (letters []) (letter 0) []);
}

-- an event that can be done first is a
a_only : (x : Action) → CanDo (letters []) (plain 0 Stop) x → x ≡ letter 0
a_only x can = by ((exact (letters []) (plain 0 Stop) x can.0).0 can.1.1)
  where
    by : IsOneOf (rule_steps (letters []) (plain 0 Stop)) x can.0 → x ≡ letter 0
    by (inl e) = e.0
    by (inr e) = absurd e

no_lesser : (path : List Action) (e : Evidence) → IsViolation (letters []) a_beyond_stop (record { path = path; evidence = e }) →
    IsTrue (is_le (violation_cmp first_event (record { path = path; evidence = e })))
no_lesser [] (ByEvent x) is =
    let P : Process → Type 0 = λ p. CanDo (letters []) p x in
    let can : CanDo (letters []) (plain 0 Stop) x = subst P (sym is.run) is.evidence.1 in
    let Q : Action → Type 0 = λ y. IsTrue (is_le (violation_cmp first_event (record { path = []; evidence = ByEvent y }))) in
    subst Q (sym (a_only x can)) refl
no_lesser [] (ByOffers xs) is = absurd is.evidence
no_lesser [] ByDeadlock is = absurd is.evidence
no_lesser [] ByDivergence is = absurd is.evidence
no_lesser (y ∷ path) e is =
    ap (λ r. is_le (ordering_then (ordering_then r (slice_cmp action_cmp [] (y ∷ path))) (evidence_cmp (ByEvent (letter 0)) e))) (sym (nat_cmp_is 0 (suc (length path)) Less (omega arith)))

pub a_least : IsLeastViolation (letters []) a_beyond_stop first_event
a_least = record { violation = a_violates; least = λ w is. no_lesser w.path w.evidence is }

-- ---- a process that only unfolds

abbrev pub P : Process
P = Call 0 no_expressions

pub unfolds : (x : Action) (u : Process) → RuleStep looping P x u → (x ≡ Tau) × (u ≡ P)
unfolds x u h = by ((exact looping P x u).0 h)
  where
    by : IsOneOf (rule_steps looping P) x u → (x ≡ Tau) × (u ≡ P)
    by (inl e) = e
    by (inr e) = absurd e

pub stays : (path : List Action) (u : Process) → Run looping P path u → (u ≡ P) × (trace path ≡ [])
stays [] u run = (sym run, refl)
stays (Tau ∷ path) u run = let Q : Process → Type 0 = λ p. Run looping p path u in stays path u (subst Q (unfolds Tau run.0 run.1.1).1 run.2)
stays (Tick ∷ path) u run = absurd (let e = (unfolds Tick run.0 run.1.1).0 in cc e)
stays (Ev f ∷ path) u run = absurd (let e = (unfolds (Ev f) run.0 run.1.1).0 in cc e)

pub unfolding_offers : (xs : List Action) → IsAcceptance looping P xs → ⊥
unfolding_offers xs (of_stable is all) = is.no_tau P ((exact looping P Tau P).1 (inl (refl, refl)))
unfolding_offers xs (of_tick can) = let e = (unfolds Tick can.0 can.1.1).0 in cc e

-- it has no failure
pub no_failure : (s : List Action) (refusal : Refusal) → IsFailure looping P s refusal → ⊥
no_failure s refusal f =
    let Q : Process → Type 0 = λ p. IsAcceptance looping p f.2.0 in
    unfolding_offers f.2.0 (subst Q (stays f.1.0 f.0 f.1.1).0 f.2.1)

-- so whatever it implements has the empty trace
pub looping_refines : HoldsPlainly looping (record { negated = false; property = RefinementOf Failures Stop; implementation = P })
looping_refines = record {
  traces = λ s is. let Q : List Action → Type 0 = IsTrace looping Stop in subst Q (sym (stays is.1.0 is.0 is.1.1).1 ∙ is.1.2) (empty_trace looping Stop);
  failures = λ s refusal f. absurd (no_failure s refusal f);
}

-- and as the specification it allows no offers
pub looping_violated : IsViolation looping (record { negated = false; property = RefinementOf Failures P; implementation = Stop }) (record { path = []; evidence = ByOffers [] })
looping_violated = record {
  end = Stop;
  run = refl;
  known = empty_trace looping P;
  evidence = (stable looping Stop [] refl refl tt, no_failure [] (AllBut []));
}

-- ---- `a -> STOP [] SKIP [F= SKIP`: the specification offers tick alone too

abbrev S : Process
S = ExternalChoice (plain 0 Stop) Skip

abbrev tick_refines : Assertion
tick_refines = record { negated = false; property = RefinementOf Failures S; implementation = Skip }

skip_steps : (x : Action) (u : Process) → RuleStep (letters []) Skip x u → (x ≡ Tick) × (u ≡ Omega)
skip_steps x u h = by ((exact (letters []) Skip x u).0 h)
  where
    by : IsOneOf (rule_steps (letters []) Skip) x u → (x ≡ Tick) × (u ≡ Omega)
    by (inl e) = e
    by (inr e) = absurd e

omega_can : (x : Action) → CanDo (letters []) Omega x → ⊥
omega_can x can = (exact (letters []) Omega x can.0).0 can.1.1

skip_can : CanDo (letters []) Skip Tick
skip_can = (Omega, (free (letters []) Skip refl, (exact (letters []) Skip Tick Omega).1 (inl (refl, refl))))

S_ticks : Step (letters []) S Tick Omega
S_ticks = (free (letters []) S refl, (exact (letters []) S Tick Omega).1 (inr (inl (refl, refl))))

S_tick_trace : IsTrace (letters []) S (Tick ∷ [])
S_tick_trace = (Omega, (Tick ∷ [], (Omega, S_ticks, refl), refl))

omega_run : (path : List Action) (u : Process) → Run (letters []) Omega path u → (u ≡ Omega) × (path ≡ [])
omega_run [] u run = (sym run, refl)
omega_run (x ∷ path) u run = absurd (omega_can x (run.0, run.1))

pub skip_run : (path : List Action) (u : Process) → Run (letters []) Skip path u → ((u ≡ Skip) × (path ≡ [])) ⊎ ((u ≡ Omega) × (path ≡ Tick ∷ []))
skip_run [] u run = inl (sym run, refl)
skip_run (x ∷ path) u run =
    let first = skip_steps x run.0 run.1.1 in
    let Q : Process → Type 0 = λ p. Run (letters []) p path u in
    let rest = omega_run path u (subst Q first.1 run.2) in
    inr (rest.0, ap (λ y. y ∷ path) first.0 ∙ ap (λ z. Tick ∷ z) rest.1)

-- an acceptance of `SKIP` has tick in it
pub skip_offers : (xs : List Action) → IsAcceptance (letters []) Skip xs → IsTrue (has_action xs Tick)
skip_offers xs (of_stable is all) = (all.each Tick).1 skip_can
skip_offers xs (of_tick can) = refl

or_false : (b : Bool) → (b || false) ≡ true → b ≡ true
or_false true e = refl
or_false false e = e

S_tick_only : (xs : List Action) → IsTrue (has_action xs Tick) → IsFailure (letters []) S [] (AllBut xs)
S_tick_only xs here = (
  S,
  ([], refl, refl),
  (
    Tick ∷ [],
    of_tick (Omega, S_ticks),
    λ x is.
        let same : x ≡ Tick = action_same x Tick (only x is) in
        let Q : Action → Type 0 = λ y. not (has_action xs y) ≡ false in subst Q (sym same) (ap not here),
  ),
)
  where
    only : (x : Action) → has_action (Tick ∷ []) x ≡ true → action_eq x Tick ≡ true
    only x e = or_false (action_eq x Tick) e

allowed_at : (path : List Action) (u : Process) → ((u ≡ Skip) × (path ≡ [])) ⊎ ((u ≡ Omega) × (path ≡ Tick ∷ [])) → IsAllowed (letters []) tick_refines path u
allowed_at path u (inl e) =
    let Q : Process → Type 0 = λ p. IsAllowed (letters []) tick_refines path p in let R : List Action → Type 0 = λ z. IsAllowed (letters []) tick_refines z Skip in
    subst Q (sym e.0) (subst R (sym e.1) (record {
      events = λ x visible can. let T : List Action → Type 0 = IsTrace (letters []) S in subst T (ap (λ y. y ∷ []) (sym (skip_steps x can.0 can.1.1).0)) S_tick_trace;
      offers = λ xs acceptance. S_tick_only xs (skip_offers xs acceptance);
    }))
allowed_at path u (inr e) =
    let Q : Process → Type 0 = λ p. IsAllowed (letters []) tick_refines path p in let R : List Action → Type 0 = λ z. IsAllowed (letters []) tick_refines z Omega in
    subst Q (sym e.0) (subst R (sym e.1) (record {
      events = λ x visible can. absurd (omega_can x can);
      offers = λ xs acceptance. (Omega, (Tick ∷ [], (Omega, S_ticks, refl), refl), refuses_rest (letters []) Omega xs acceptance);
    }))

pub tick_is_a_signal : HoldsPlainly (letters []) tick_refines
tick_is_a_signal = holds_from_allowed (letters []) tick_refines (λ path u run known. allowed_at path u (skip_run path u run))

-- ---- divergence and deadlock

pub looping_diverges : (n : ℕ) → (u : Process) × Run looping P (replicate n Tau) u
looping_diverges zero = (P, refl)
looping_diverges (suc n) =
    let rest = looping_diverges n in
    (rest.0, (P, (free looping P refl, (exact looping P Tau P).1 (inl (refl, refl))), rest.1))

pub stop_converges : (s : Script) → ((n : ℕ) → (u : Process) × Run s Stop (replicate n Tau) u) → ⊥
stop_converges s long = let one = (long 1).1 in (exact s Stop Tau one.0).0 one.1.1

stop_is_not_omega : Stop ≡ Omega → ⊥
stop_is_not_omega e = cc e

pub stop_deadlocked : IsDeadlocked (letters []) Stop
stop_deadlocked = (stop_is_not_omega, stable (letters []) Stop [] refl refl tt)

-- ---- with `not`

-- `true & STOP` goes nowhere
guarded_run : (path : List Action) (u : Process) → Run (letters []) guarded_stop path u → path ≡ []
guarded_run [] u run = refl
guarded_run (x ∷ path) u run = absurd ((exact (letters []) guarded_stop x run.0).0 run.1.1)

no_guarded_trace : (x : Action) → IsTrace (letters []) guarded_stop (x ∷ []) → ⊥
no_guarded_trace x is =
    let e : trace is.1.0 ≡ x ∷ [] = is.1.2 in
    let g : trace is.1.0 ≡ [] = ap trace (guarded_run is.1.0 is.0 is.1.1) in
    cc (e, g)

pub not_guarded_holds : HoldsAsWritten (letters []) (negation_of (in_traces guarded_stop (plain 0 Stop)))
not_guarded_holds = (
  first_event,
  record { end = plain 0 Stop; run = refl; known = empty_trace (letters []) guarded_stop; evidence = (tt, a_can, no_guarded_trace (letter 0)) },
)

pub not_a_denied : HoldsPlainly (letters []) (negation_of (in_traces (plain 0 Stop) Stop))
not_a_denied s is =
    let T : List Action → Type 0 = IsTrace (letters []) (plain 0 Stop) in
    subst T (sym (ap trace (stop_run (letters []) is.1.0 is.0 is.1.1).0) ∙ is.1.2) (empty_trace (letters []) (plain 0 Stop))
