-- Tests that compute, for terms that are not stuck and for what they offer.
use Rattle.std.proofs.Common.{◌≡◌, Bool, true, false, ◌&&◌, List, [], ◌∷◌, refl, ◌∙◌, ap, ap₂, inl, inr, ⊎_elim, Option, Some, None}
use Rattle.std.proofs.lemmas.Bool.{or_cases}
use Rattle.std.specs.List.{list_all, list_any}
use Rattle.std.specs.Option.{is_none}
use Rattle.theory_syntax.specs.Value.{Action, Tau, Tick, Ev, action_eq, has_action}
use Rattle.theory_semantics.specs.Meaning.Evaluation.{Cause}
use Rattle.theory_syntax.specs.Process.{Process, Script}
use Rattle.theory_semantics.specs.Meaning.Limits.{fits}
use Rattle.theory_semantics.specs.Meaning.Faults.{cause_in}
use Rattle.theory_semantics.specs.Meaning.Transitions.{IsNotStuck}
use Rattle.theory_semantics.specs.Meaning.Offers.{IsRising, IsAcceptance, of_stable, of_tick}
use Rattle.theory_semantics.specs.Meaning.Stepping.{Steps, rule_steps}
use Rattle.theory_semantics.specs.Laws.Statements.{IsOneOf}
use Rattle.theory_syntax.proofs.Equalities.{event_same, event_refl}
use Rattle.theory_syntax.proofs.Truths.{and_first, and_second}
use Rattle.theory_semantics.proofs.Stepping.{exact}

pub action_same : (x y : Action) → action_eq x y ≡ true → x ≡ y
action_same Tau Tau e = refl
action_same Tau Tick e = absurd (cc e)
action_same Tau (Ev f) e = absurd (cc e)
action_same Tick Tau e = absurd (cc e)
action_same Tick Tick e = refl
action_same Tick (Ev f) e = absurd (cc e)
action_same (Ev d) Tau e = absurd (cc e)
action_same (Ev d) Tick e = absurd (cc e)
action_same (Ev d) (Ev f) e = ap Ev (event_same d f e)

pub action_refl : (x : Action) → action_eq x x ≡ true
action_refl Tau = refl
action_refl Tick = refl
action_refl (Ev e) = event_refl e

-- each step of the list passes
each_passes : (test : Action → Process → Bool) (ss : Steps) → list_all (λ s. test s.0 s.1) ss ≡ true → (x : Action) (u : Process) → IsOneOf ss x u → test x u ≡ true
each_passes test [] all x u h = absurd h
each_passes test (s ∷ ss) all x u (inl e) = ap₂ test e.0 e.1 ∙ and_first (test s.0 s.1) (list_all (λ s. test s.0 s.1) ss) all
each_passes test (s ∷ ss) all x u (inr h) = each_passes test ss (and_second (test s.0 s.1) (list_all (λ s. test s.0 s.1) ss) all) x u h

is_none_None : (c : Option Cause) → is_none c ≡ true → c ≡ None
is_none_None None e = refl
is_none_None (Some c) e = absurd (cc e)

abbrev pub is_free : Script → Process → Bool
is_free s t = fits t && (is_none (cause_in s t) && list_all (λ st. fits st.1) (rule_steps s t))

pub free : (s : Script) (t : Process) → is_free s t ≡ true → IsNotStuck s t
free s t e =
    let rest = and_second (fits t) (is_none (cause_in s t) && list_all (λ st. fits st.1) (rule_steps s t)) e in record {
      within = and_first (fits t) (is_none (cause_in s t) && list_all (λ st. fits st.1) (rule_steps s t)) e;
      no_cause = is_none_None (cause_in s t) (and_first (is_none (cause_in s t)) (list_all (λ st. fits st.1) (rule_steps s t)) rest);
      targets = λ x u h. each_passes (λ y p. fits p) (rule_steps s t) (and_second (is_none (cause_in s t)) (list_all (λ st. fits st.1) (rule_steps s t)) rest) x u ((exact s t x u).0 h);
    }

-- a step of the list that does the action
does : (x : Action) (ss : Steps) → list_any (λ s. action_eq x s.0) ss ≡ true → (u : Process) × IsOneOf ss x u
does x [] e = absurd (cc e)
does x (s ∷ ss) e =
    ⊎_elim (λ h. (s.1, inl (action_same x s.0 h, refl))) (λ h. let r = does x ss h in (r.0, inr r.1)) (or_cases (action_eq x s.0) (list_any (λ s. action_eq x s.0) ss) e)

one_of_all : (test : Action → Bool) (xs : List Action) → list_all test xs ≡ true → (x : Action) → has_action xs x ≡ true → test x ≡ true
one_of_all test [] all x e = absurd (cc e)
one_of_all test (y ∷ ys) all x e =
    ⊎_elim (λ h. ap test (action_same x y h) ∙ and_first (test y) (list_all test ys) all) (λ h. one_of_all test ys (and_second (test y) (list_all test ys) all) x h)
    (or_cases (action_eq x y) (has_action ys x) e)

abbrev pub no_tau_in : Action → Process → Bool
no_tau_in Tau u = false
no_tau_in Tick u = true
no_tau_in (Ev e) u = true

-- the actions of the steps are those of the list
abbrev pub offers_just : Script → Process → List Action → Bool
offers_just s t xs = list_all (λ st. no_tau_in st.0 st.1) (rule_steps s t) &&
    (list_all (λ st. has_action xs st.0) (rule_steps s t) && list_all (λ x. list_any (λ st. action_eq x st.0) (rule_steps s t)) xs)

pub stable : (s : Script) (t : Process) (xs : List Action) → is_free s t ≡ true → offers_just s t xs ≡ true → IsRising xs → IsAcceptance s t xs
stable s t xs is_ok offers rising =
    let ss = rule_steps s t in
    let not_stuck = free s t is_ok in
    let no_tau = and_first (list_all (λ st. no_tau_in st.0 st.1) ss) (list_all (λ st. has_action xs st.0) ss && list_all (λ x. list_any (λ st. action_eq x st.0) ss) xs) offers in
    let rest = and_second (list_all (λ st. no_tau_in st.0 st.1) ss) (list_all (λ st. has_action xs st.0) ss && list_all (λ x. list_any (λ st. action_eq x st.0) ss) xs) offers in
    let here = and_first (list_all (λ st. has_action xs st.0) ss) (list_all (λ x. list_any (λ st. action_eq x st.0) ss) xs) rest in
    let back = and_second (list_all (λ st. has_action xs st.0) ss) (list_all (λ x. list_any (λ st. action_eq x st.0) ss) xs) rest in
    of_stable
    (record { not_stuck = not_stuck; no_tau = λ u h. let e = each_passes no_tau_in ss no_tau Tau u ((exact s t Tau u).0 h) in cc e })
    (record {
      rising = rising;
      each = λ x. (
        λ e. let d = does x ss (one_of_all (λ y. list_any (λ st. action_eq y st.0) ss) xs back x e) in (d.0, (not_stuck, (exact s t x d.0).1 d.1)),
        λ can. each_passes (λ y u. has_action xs y) ss here x can.0 ((exact s t x can.0).0 can.1.1),
      );
    })

pub ticks : (s : Script) (t u : Process) → is_free s t ≡ true → IsOneOf (rule_steps s t) Tick u → IsAcceptance s t (Tick ∷ [])
ticks s t u is_ok h = of_tick (u, (free s t is_ok, (exact s t Tick u).1 h))

abbrev pub no_tick_in : Action → Process → Bool
no_tick_in Tau u = true
no_tick_in Tick u = false
no_tick_in (Ev e) u = true

-- a term with a tau that can not tick offers nothing
pub offers_none : (s : Script) (t u : Process) → IsOneOf (rule_steps s t) Tau u → list_all (λ st. no_tick_in st.0 st.1) (rule_steps s t) ≡ true → (xs : List Action) → IsAcceptance s t xs → ⊥
offers_none s t u tau no_tick xs (of_stable is all) = is.no_tau u ((exact s t Tau u).1 tau)
offers_none s t u tau no_tick xs (of_tick can) = let e = each_passes no_tick_in (rule_steps s t) no_tick Tick can.0 ((exact s t Tick can.0).0 can.1.1) in cc e
