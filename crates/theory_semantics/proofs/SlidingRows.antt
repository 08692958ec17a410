-- Assertions over sliding choices.
use Rattle.std.proofs.Common.{◌≡◌, List, [], ◌∷◌, refl, sym, ap, subst, inl, inr, IsTrue}
use Rattle.theory_syntax.specs.Value.{Action, Tau, Tick, Ev, has_action}
use Rattle.theory_syntax.specs.Process.{Process, Stop, Skip, InternalChoice, SlidingChoice, Script}
use Rattle.theory_semantics.specs.Meaning.Stepping.{rule_steps}
use Rattle.theory_semantics.specs.Meaning.Transitions.{IsVisible, RuleStep, Step}
use Rattle.theory_semantics.specs.Meaning.Runs.{Run, trace, IsTrace}
use Rattle.theory_semantics.specs.Meaning.Offers.{CanDo, IsAcceptance, of_stable, of_tick, AllBut, IsFailure}
use Rattle.theory_semantics.specs.Meaning.Properties.{HoldsPlainly}
use Rattle.theory_semantics.specs.Meaning.Violations.{ByOffers, IsViolation, IsAllowed}
use Rattle.theory_semantics.specs.Laws.Statements.{IsOneOf}
use Rattle.theory_semantics.specs.Laws.Terms.{letters, letter, b_stop, a_or_b, slides, in_failures, after_tau}
use Rattle.theory_semantics.proofs.Running.{empty_trace}
use Rattle.theory_semantics.proofs.Stepping.{exact}
use Rattle.theory_semantics.proofs.Offering.{free, stable}
use Rattle.theory_semantics.proofs.Refining.{holds_from_allowed, refuses_rest}
use Rattle.theory_semantics.proofs.WorkedRows.{stop_run, skip_offers}

-- without a tau a term stays as it is while its trace is empty
stays : (s : Script) (t : Process) → ((u : Process) → RuleStep s t Tau u → ⊥) → (path : List Action) (u : Process) → Run s t path u → trace path ≡ [] → u ≡ t
stays s t no_tau [] u run e = sym run
stays s t no_tau (Tau ∷ path) u run e = absurd (no_tau run.0 run.1.1)
stays s t no_tau (Tick ∷ path) u run e = absurd (cc e)
stays s t no_tau (Ev f ∷ path) u run e = absurd (cc e)

-- ---- what slides away offers less

choice_is : (x : Action) (u : Process) → IsOneOf (rule_steps (letters []) a_or_b) x u → (x ≡ Tau → ⊥) × (x ≡ Tick → ⊥)
choice_is x u (inl e) = (λ f. let g = sym e.0 in cc (g, f), λ f. let g = sym e.0 in cc (g, f))
choice_is x u (inr (inl e)) = (λ f. let g = sym e.0 in cc (g, f), λ f. let g = sym e.0 in cc (g, f))
choice_is x u (inr (inr e)) = absurd e

choice_no_tau : (u : Process) → RuleStep (letters []) a_or_b Tau u → ⊥
choice_no_tau u h = (choice_is Tau u ((exact (letters []) a_or_b Tau u).0 h)).0 refl

a_step : Step (letters []) a_or_b (letter 0) Stop
a_step = (free (letters []) a_or_b refl, (exact (letters []) a_or_b (letter 0) Stop).1 (inl (refl, refl)))

choice_can : CanDo (letters []) a_or_b (letter 0)
choice_can = (Stop, a_step)

choice_offers : (xs : List Action) → IsAcceptance (letters []) a_or_b xs → IsTrue (has_action xs (letter 0))
choice_offers xs (of_stable is all) = (all.each (letter 0)).1 choice_can
choice_offers xs (of_tick can) = absurd ((choice_is Tick can.0 ((exact (letters []) a_or_b Tick can.0).0 can.1.1)).1 refl)

choice_fails : IsFailure (letters []) a_or_b [] (AllBut (letter 1 ∷ [])) → ⊥
choice_fails f =
    let same = stays (letters []) a_or_b choice_no_tau f.1.0 f.0 f.1.1 f.1.2 in
    let P : Process → Type 0 = λ p. IsAcceptance (letters []) p f.2.0 in
    let e = f.2.2 (letter 0) (choice_offers f.2.0 (subst P same f.2.1)) in cc e

slides_away : Step (letters []) slides Tau b_stop
slides_away = (free (letters []) slides refl, (exact (letters []) slides Tau b_stop).1 (inr (inl (refl, refl))))

pub slides_violates : IsViolation (letters []) (in_failures a_or_b slides) (after_tau (ByOffers (letter 1 ∷ [])))
slides_violates = record {
  end = b_stop;
  run = (b_stop, slides_away, refl);
  known = empty_trace (letters []) a_or_b;
  evidence = (stable (letters []) b_stop (letter 1 ∷ []) refl refl tt, choice_fails);
}

-- ---- `SKIP [> STOP` may end in `STOP`

abbrev ends : Process
ends = SlidingChoice Skip Stop

skip_no_tau : (u : Process) → RuleStep (letters []) Skip Tau u → ⊥
skip_no_tau u h = by ((exact (letters []) Skip Tau u).0 h)
  where
    by : IsOneOf (rule_steps (letters []) Skip) Tau u → ⊥
    by (inl e) = let f = e.0 in cc f
    by (inr e) = e

skip_fails : IsFailure (letters []) Skip [] (AllBut []) → ⊥
skip_fails f =
    let same = stays (letters []) Skip skip_no_tau f.1.0 f.0 f.1.1 f.1.2 in
    let P : Process → Type 0 = λ p. IsAcceptance (letters []) p f.2.0 in
    let e = f.2.2 Tick (skip_offers f.2.0 (subst P same f.2.1)) in cc e

pub ends_violates : IsViolation (letters []) (in_failures Skip ends) (after_tau (ByOffers []))
ends_violates = record {
  end = Stop;
  run = (Stop, (free (letters []) ends refl, (exact (letters []) ends Tau Stop).1 (inr (inl (refl, refl)))), refl);
  known = empty_trace (letters []) Skip;
  evidence = (stable (letters []) Stop [] refl refl tt, skip_fails);
}

-- ---- a choice that the process makes by itself allows it

abbrev within : Process
within = InternalChoice a_or_b b_stop

to_choice : Step (letters []) within Tau a_or_b
to_choice = (free (letters []) within refl, (exact (letters []) within Tau a_or_b).1 (inl (refl, refl)))

to_b : Step (letters []) within Tau b_stop
to_b = (free (letters []) within refl, (exact (letters []) within Tau b_stop).1 (inr (inl (refl, refl))))

b_step : Step (letters []) b_stop (letter 1) Stop
b_step = (free (letters []) b_stop refl, (exact (letters []) b_stop (letter 1) Stop).1 (inl (refl, refl)))

-- after a and after b it can be `STOP`
by_a : Run (letters []) within (Tau ∷ letter 0 ∷ []) Stop
by_a = (a_or_b, to_choice, (Stop, a_step, refl))

by_b : Run (letters []) within (Tau ∷ letter 1 ∷ []) Stop
by_b = (b_stop, to_b, (Stop, b_step, refl))

-- `STOP` does nothing
stop_allowed : (path : List Action) → IsTrace (letters []) within (trace path) → (way : List Action) → Run (letters []) within way Stop → trace way ≡ trace path → IsAllowed (letters []) (in_failures within slides) path Stop
stop_allowed path known way run e = record {
  events = λ x visible can. absurd ((exact (letters []) Stop x can.0).0 can.1.1);
  offers = λ xs acceptance. (Stop, (way, run, e), refuses_rest (letters []) Stop xs acceptance);
}

b_is : (x : Action) (u : Process) → IsOneOf (rule_steps (letters []) b_stop) x u → (x ≡ letter 1) × (u ≡ Stop)
b_is x u (inl e) = e
b_is x u (inr e) = absurd e

b_allowed : IsAllowed (letters []) (in_failures within slides) (Tau ∷ []) b_stop
b_allowed = record {
  events = λ x visible can.
      let T : List Action → Type 0 = IsTrace (letters []) within in
      subst T (ap (λ y. y ∷ []) (sym (b_is x can.0 ((exact (letters []) b_stop x can.0).0 can.1.1)).0)) (Stop, (Tau ∷ letter 1 ∷ [], by_b, refl));
  offers = λ xs acceptance. (b_stop, (Tau ∷ [], (b_stop, to_b, refl), refl), refuses_rest (letters []) b_stop xs acceptance);
}

-- the steps of the sliding choice
data Slid (x : Action) (u : Process) : Type 0 where
  chosen : x ≡ letter 0 → u ≡ Stop → Slid x u
  away : x ≡ Tau → u ≡ b_stop → Slid x u

slid : (x : Action) (u : Process) → IsOneOf (rule_steps (letters []) slides) x u → Slid x u
slid x u (inl e) = chosen e.0 e.1
slid x u (inr (inl e)) = away e.0 e.1
slid x u (inr (inr e)) = absurd e

no_tick : (x : Action) (u : Process) → Slid x u → x ≡ Tick → ⊥
no_tick x u (chosen e f) g = let h = sym e in cc (h, g)
no_tick x u (away e f) g = let h = sym e in cc (h, g)

event_known : (x : Action) (u : Process) → Slid x u → (x ≡ Tau → ⊥) → IsTrace (letters []) within (x ∷ [])
event_known x u (chosen e f) visible = let T : Action → Type 0 = λ y. IsTrace (letters []) within (y ∷ []) in subst T (sym e) (Stop, (Tau ∷ letter 0 ∷ [], by_a, refl))
event_known x u (away e f) visible = absurd (visible e)

slides_allowed : IsAllowed (letters []) (in_failures within slides) [] slides
slides_allowed = record {
  events = λ x visible can. event_known x can.0 (slid x can.0 ((exact (letters []) slides x can.0).0 can.1.1)) (not_tau x visible);
  offers = λ xs acceptance. absurd (none xs acceptance);
}
  where
    not_tau : (x : Action) → IsVisible x → x ≡ Tau → ⊥
    not_tau Tau v e = v
    not_tau Tick v e = cc e
    not_tau (Ev f) v e = cc e

    none : (xs : List Action) → IsAcceptance (letters []) slides xs → ⊥
    none xs (of_stable is all) = is.no_tau b_stop slides_away.1
    none xs (of_tick can) = no_tick Tick can.0 (slid Tick can.0 ((exact (letters []) slides Tick can.0).0 can.1.1)) refl

b_run : (path : List Action) (u : Process) → Run (letters []) b_stop path u → IsAllowed (letters []) (in_failures within slides) (Tau ∷ path) u
b_run [] u run = let P : Process → Type 0 = λ p. IsAllowed (letters []) (in_failures within slides) (Tau ∷ []) p in subst P run b_allowed
b_run (x ∷ path) u run =
    let first = b_is x run.0 ((exact (letters []) b_stop x run.0).0 run.1.1) in
    let Q : Process → Type 0 = λ p. Run (letters []) p path u in
    let rest = stop_run (letters []) path u (subst Q first.1 run.2) in
    let P : Process → Type 0 = λ p. IsAllowed (letters []) (in_failures within slides) (Tau ∷ x ∷ path) p in
    let R : Action → List Action → Type 0 = λ y z. IsAllowed (letters []) (in_failures within slides) (Tau ∷ y ∷ z) Stop in
    let ends = stop_allowed (Tau ∷ letter 1 ∷ []) (Stop, (Tau ∷ letter 1 ∷ [], by_b, refl)) (Tau ∷ letter 1 ∷ []) by_b refl in
    let S : Action → Type 0 = λ y. R y path in
    let T : List Action → Type 0 = λ z. R (letter 1) z in
    subst P (sym rest.1) (subst S (sym first.0) (subst T (sym rest.0) ends))

slides_run : (path : List Action) (u : Process) → Run (letters []) slides path u → IsAllowed (letters []) (in_failures within slides) path u
slides_run [] u run = let P : Process → Type 0 = λ p. IsAllowed (letters []) (in_failures within slides) [] p in subst P run slides_allowed
slides_run (x ∷ path) u run = by (slid x run.0 ((exact (letters []) slides x run.0).0 run.1.1))
  where
    by : Slid x run.0 → IsAllowed (letters []) (in_failures within slides) (x ∷ path) u
    by (chosen e f) =
        let Q : Process → Type 0 = λ p. Run (letters []) p path u in
        let rest = stop_run (letters []) path u (subst Q f run.2) in
        let P : Process → Type 0 = λ p. IsAllowed (letters []) (in_failures within slides) (x ∷ path) p in
        let S : Action → Type 0 = λ y. IsAllowed (letters []) (in_failures within slides) (y ∷ path) Stop in
        let T : List Action → Type 0 = λ z. IsAllowed (letters []) (in_failures within slides) (letter 0 ∷ z) Stop in
        subst P (sym rest.1) (subst S (sym e) (subst T (sym rest.0)
        (stop_allowed (letter 0 ∷ []) (Stop, (Tau ∷ letter 0 ∷ [], by_a, refl)) (Tau ∷ letter 0 ∷ []) by_a refl)))
    by (away e f) =
        let Q : Process → Type 0 = λ p. Run (letters []) p path u in
        let S : Action → Type 0 = λ y. IsAllowed (letters []) (in_failures within slides) (y ∷ path) u in
        subst S (sym e) (b_run path u (subst Q f run.2))

pub slides_refines : HoldsPlainly (letters []) (in_failures within slides)
slides_refines = holds_from_allowed (letters []) (in_failures within slides) (λ path u run known. slides_run path u run)
