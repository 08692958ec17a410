-- From the steps of a term, sorted and each once, to its form.
use Rattle.std.proofs.Common.{◌≡◌, ℕ, zero, suc, nat_eq, Bool, true, false, ◌&&◌, ◌||◌, cond, List, [], ◌∷◌, ◌++◌, length, map, refl, sym, ◌∙◌, ap, subst, inl, inr, ◌⊎◌, ⊎_elim, Contains, Option, Some, None, arith, IsTrue, ◌↔◌}
use Rattle.std.proofs.lemmas.Bool.{eqb-true, or_cases, or_left, or_right}
use Rattle.std.specs.List.{list_any}
use Rattle.std.specs.Option.{option_map}
use Rattle.std.specs.Ordering.{is_lt}
use Rattle.theory_syntax.specs.Value.{Action, Tau, Tick, Ev, Event, action_eq, has_action}
use Rattle.theory_syntax.specs.Process.{Process, Script}
use Rattle.theory_syntax.proofs.Members.{contains_none, contains_here, contains_one}
use Rattle.theory_semantics.specs.Meaning.Limits.{fits}
use Rattle.theory_semantics.specs.Meaning.Expansions.{Form, IsFired, IsFormOf, offers_cmp, step_cmp}
use Rattle.theory_semantics.specs.Meaning.Faults.{cause_in}
use Rattle.theory_semantics.specs.Meaning.Offers.{IsRising, RisesBy, CanDo, IsAllThat, IsAcceptance, of_stable, of_tick}
use Rattle.theory_semantics.specs.Meaning.Stepping.{Steps}
use Rattle.theory_semantics.specs.Meaning.Transitions.{IsNotStuck, RuleStep, by_step}
use Rattle.theory_semantics.specs.Laws.Statements.{IsOneOf, StepsAre}
use Rattle.theory_semantics.proofs.Rising.{all_that_is_one}
use Rattle.csp_steps.specs.Answering.{Answered, IsAnswered, all_within, within_limits}
use Rattle.csp_fire.specs.Offering.{IsFormByAnswer, IsFormBySteps, IsFormWithin, actions_of, has_tau, has_tick, is_tau, is_tick, offers_of}
use Rattle.csp_steps.proofs.Answered.{among_steps, contains_one_of, one_of_contains, step_among}
use Rattle.csp_fire.proofs.Acting.{acts_from, acts_has, acts_rise}

-- ---- steps by one action

module _ (test : Action → Bool) (a : Action) (only : (x : Action) → test x ≡ true → a ≡ x) (passes : test a ≡ true) where
  some_from : (ss : Steps) → list_any (λ s. test s.0) ss ≡ true → (u : Process) × IsOneOf ss a u
  some_from [] h = absurd (cc h)
  some_from (s ∷ ss) h =
      ⊎_elim (λ k. (s.1, inl (only s.0 k, refl))) (λ k. let r = some_from ss k in (r.0, inr r.1)) (or_cases (test s.0) (list_any (λ s. test s.0) ss) h)

  some_has : (ss : Steps) (u : Process) → IsOneOf ss a u → list_any (λ s. test s.0) ss ≡ true
  some_has [] u h = absurd h
  some_has (s ∷ ss) u (inl e) = or_left (test s.0) (list_any (λ s. test s.0) ss) (ap test (sym e.0) ∙ passes)
  some_has (s ∷ ss) u (inr h) = or_right (test s.0) (list_any (λ s. test s.0) ss) (some_has ss u h)

only_tau : (x : Action) → is_tau x ≡ true → Tau ≡ x
only_tau Tau e = refl
only_tau Tick e = absurd (cc e)
only_tau (Ev f) e = absurd (cc e)

only_tick : (x : Action) → is_tick x ≡ true → Tick ≡ x
only_tick Tau e = absurd (cc e)
only_tick Tick e = refl
only_tick (Ev f) e = absurd (cc e)

-- ---- tick alone

length_one : (n : ℕ) → nat_eq (suc (suc n)) 1 ≡ true → ⊥
length_one n e = let f : suc (suc n) ≡ 1 = eqb-true (suc (suc n)) 1 e in omega (arith, f)

tick_is : (y : Action) → action_eq Tick y || false ≡ true → y ≡ Tick
tick_is Tau e = absurd (cc e)
tick_is Tick e = refl
tick_is (Ev f) e = absurd (cc e)

alone : (xs : List Action) → nat_eq (length xs) 1 ≡ true → has_action xs Tick ≡ true → xs ≡ Tick ∷ []
alone [] e has = absurd (cc has)
alone (y ∷ []) e has = ap (λ z. z ∷ []) (tick_is y has)
alone (y ∷ z ∷ zs) e has = absurd (length_one (length zs) e)

no_tick_above : (e : Event) (ys : List Action) → IsRising (Ev e ∷ ys) → has_action ys Tick ≡ true → ⊥
no_tick_above e [] rise has = cc has
no_tick_above e (Tau ∷ ys) rise has = let f = rise.0 in cc f
no_tick_above e (Tick ∷ ys) rise has = let f = rise.0 in cc f
no_tick_above e (Ev f ∷ ys) rise has = no_tick_above f ys rise.1 has

-- tick alone comes before all actions, if those are more
tick_first : (xs : List Action) → IsRising xs → has_action xs Tick ≡ true → (has_action xs Tau ≡ true → ⊥) → nat_eq (length xs) 1 ≡ false → is_lt (offers_cmp (Tick ∷ []) xs) ≡ true
tick_first [] rise has tauless more = absurd (cc has)
tick_first (y ∷ []) rise has tauless more = absurd (let f : true ≡ false = more in cc f)
tick_first (Tau ∷ z ∷ zs) rise has tauless more = absurd (tauless refl)
tick_first (Tick ∷ z ∷ zs) rise has tauless more = refl
tick_first (Ev e ∷ z ∷ zs) rise has tauless more = absurd (no_tick_above e (z ∷ zs) rise has)

-- ---- lists of one or two

in_two : {X : Type 0} (w x y : X) → Contains (w ∷ x ∷ []) y → (w ≡ y) ⊎ (x ≡ y)
in_two w x y (zero, h, e) = inl e
in_two w x y (suc zero, h, e) = inr e
in_two w x y (suc (suc k), h, e) = absurd (omega arith)

second : {X : Type 0} (w x : X) → Contains (w ∷ x ∷ []) x
second w x = (1, omega arith, refl)

-- ---- the acceptances

module _ (s : Script) (t : Process) (ss : Steps) (free : IsNotStuck s t) (each : (x : Action) (u : Process) → RuleStep s t x u ↔ IsOneOf ss x u) (rise : RisesBy step_cmp ss) where
  can_from : (x : Action) → has_action (actions_of ss) x ≡ true → CanDo s t x
  can_from x h = let r = acts_from ss x h in (r.0, (free, (each x r.0).1 r.1))

  can_has : (x : Action) → CanDo s t x → has_action (actions_of ss) x ≡ true
  can_has x can = acts_has ss x can.0 ((each x can.0).0 can.1.1)

  all_that : IsAllThat s t (actions_of ss)
  all_that = record { rising = acts_rise ss rise; each = λ x. (can_from x, can_has x) }

  ticks : has_tick ss ≡ true → CanDo s t Tick
  ticks h = let r = some_from is_tick Tick only_tick refl ss h in (r.0, (free, (each Tick r.0).1 r.1))

  ticks_has : CanDo s t Tick → has_tick ss ≡ true
  ticks_has can = some_has is_tick Tick only_tick refl ss can.0 ((each Tick can.0).0 can.1.1)

  taus : has_tau ss ≡ true → (u : Process) × RuleStep s t Tau u
  taus h = let r = some_from is_tau Tau only_tau refl ss h in (r.0, (each Tau r.0).1 r.1)

  taus_has : (u : Process) → RuleStep s t Tau u → has_tau ss ≡ true
  taus_has u step = some_has is_tau Tau only_tau refl ss u ((each Tau u).0 step)

  no_tau : has_tau ss ≡ false → (u : Process) → RuleStep s t Tau u → ⊥
  no_tau h u step = let e = taus_has u step in cc (h, e)

  accepts_all : has_tau ss ≡ false → IsAcceptance s t (actions_of ss)
  accepts_all h = of_stable (record { not_stuck = free; no_tau = no_tau h }) all_that

  tick_among : has_tick ss ≡ true → has_action (actions_of ss) Tick ≡ true
  tick_among h = can_has Tick (ticks h)

  -- the acceptances by which of the tests hold
  abbrev by_tests : Bool → Bool → Bool → List (List Action)
  by_tests tick tau one = cond tick ((Tick ∷ []) ∷ []) [] ++ cond (tau || (tick && one)) [] (actions_of ss ∷ [])

  abbrev Exact : List (List Action) → Type 0
  Exact offers = ((xs : List Action) → IsAcceptance s t xs ↔ Contains offers xs) × RisesBy offers_cmp offers

  -- what an acceptance is
  stable_is : (tau : Bool) → has_tau ss ≡ tau → (xs : List Action) → IsAcceptance s t xs → ((tau ≡ false) × (xs ≡ actions_of ss)) ⊎ ((has_tick ss ≡ true) × (xs ≡ Tick ∷ []))
  stable_is true is xs (of_stable st all) = absurd (let r = taus is in st.no_tau r.0 r.1)
  stable_is false is xs (of_stable st all) = inl (refl, all_that_is_one s t xs (actions_of ss) all all_that)
  stable_is tau is xs (of_tick can) = inr (ticks_has can, refl)

  only_list : (offers : List (List Action)) → ((xs : List Action) → IsAcceptance s t xs → Contains offers xs) → ((xs : List Action) → Contains offers xs → IsAcceptance s t xs) → RisesBy offers_cmp offers → Exact offers
  only_list offers to from rises = (λ xs. (to xs, from xs), rises)

  along : {xs ys : List Action} → xs ≡ ys → IsAcceptance s t xs → IsAcceptance s t ys
  along e a = subst (λ zs. IsAcceptance s t zs) e a

  among : {xs ys : List Action} (offers : List (List Action)) → xs ≡ ys → Contains offers ys → Contains offers xs
  among {xs} {ys} offers e h = subst (λ zs. Contains offers zs) (sym e) h

  exact_offers : (tick tau one : Bool) → has_tick ss ≡ tick → has_tau ss ≡ tau → nat_eq (length (actions_of ss)) 1 ≡ one → Exact (by_tests tick tau one)
  exact_offers false false one ticked taued ones =
      only_list (actions_of ss ∷ [])
      (λ xs a. ⊎_elim (λ e. among (actions_of ss ∷ []) e.1 (contains_here (actions_of ss) [])) (λ e. absurd (let f = e.0 in cc (f, ticked))) (stable_is false taued xs a))
      (λ xs h. along (contains_one (actions_of ss) xs h) (accepts_all taued)) tt
  exact_offers false true one ticked taued ones =
      only_list [] (λ xs a. ⊎_elim (λ e. absurd (let f = e.0 in cc f)) (λ e. absurd (let f = e.0 in cc (f, ticked))) (stable_is true taued xs a)) (λ xs h. absurd (contains_none xs h)) tt
  exact_offers true true one ticked taued ones =
      only_list ((Tick ∷ []) ∷ []) (λ xs a. ⊎_elim (λ e. absurd (let f = e.0 in cc f)) (λ e. among ((Tick ∷ []) ∷ []) e.1 (contains_here (Tick ∷ []) [])) (stable_is true taued xs a))
      (λ xs h. along (contains_one (Tick ∷ []) xs h) (of_tick (ticks ticked))) tt
  exact_offers true false true ticked taued ones =
      let is : actions_of ss ≡ Tick ∷ [] = alone (actions_of ss) ones (tick_among ticked) in
      only_list ((Tick ∷ []) ∷ []) (λ xs a. ⊎_elim (λ e. among ((Tick ∷ []) ∷ []) (e.1 ∙ is) (contains_here (Tick ∷ []) [])) (λ e. among ((Tick ∷ []) ∷ []) e.1 (contains_here (Tick ∷ []) [])) (stable_is false taued xs a))
      (λ xs h. along (contains_one (Tick ∷ []) xs h) (of_tick (ticks ticked))) tt
  exact_offers true false false ticked taued ones =
      only_list ((Tick ∷ []) ∷ actions_of ss ∷ [])
      (λ xs a. ⊎_elim (λ e. among ((Tick ∷ []) ∷ actions_of ss ∷ []) e.1 (second (Tick ∷ []) (actions_of ss))) (λ e. among ((Tick ∷ []) ∷ actions_of ss ∷ []) e.1 (contains_here (Tick ∷ []) (actions_of ss ∷ []))) (stable_is false taued xs a))
      (λ xs h. ⊎_elim (λ e. along e (of_tick (ticks ticked))) (λ e. along e (accepts_all taued)) (in_two (Tick ∷ []) (actions_of ss) xs h))
      (tick_first (actions_of ss) (acts_rise ss rise) (tick_among ticked) (λ h. let can = can_from Tau h in no_tau taued can.0 can.1.1) ones, tt)

  pub fired : IsFired s t ss (offers_of ss)
  fired =
      let offers = exact_offers (has_tick ss) (has_tau ss) (nat_eq (length (actions_of ss)) 1) refl refl refl in record {
        not_stuck = free;
        each_step = λ x u. (λ step. contains_one_of ss x u ((each x u).0 step), λ h. (each x u).1 (one_of_contains ss x u h));
        steps_rise = rise;
        each_offer = offers.0;
        offers_rise = offers.1;
      }

-- ---- what is answered, by whether it is all within the limits

-- a step that is within the limits
abbrev marked : Action × Process → Answered
marked s = (s.0, Some s.1)

some_kept : (u v : Process) → Some v ≡ within_limits u → (v ≡ u) × (fits u ≡ true)
some_kept u v e = by_test (fits u) refl e
  where
    by_test : (b : Bool) → fits u ≡ b → Some v ≡ cond b (Some u) None → (v ≡ u) × (fits u ≡ true)
    by_test true is same = (let k : Some v ≡ Some u = same in cc k, is)
    by_test false is same = absurd (cc same)

none_kept : (u : Process) → None ≡ within_limits u → fits u ≡ false
none_kept u e = by_test (fits u) refl e
  where
    by_test : (b : Bool) → fits u ≡ b → None ≡ cond b (Some u) None → fits u ≡ false
    by_test true is same = absurd (cc same)
    by_test false is same = is

all_marked : (answers : List Answered) (ss : Steps) → all_within answers ≡ Some ss → answers ≡ map marked ss
all_marked [] ss e = let k : Some [] ≡ Some ss = e in let j : [] ≡ ss = cc k in ap (map marked) j
all_marked ((x, None) ∷ answers) ss e = absurd (cc e)
all_marked ((x, Some u) ∷ answers) ss e = by_rest (all_within answers) refl e (all_marked answers)
  where
    by_rest : (r : Option Steps) → all_within answers ≡ r → option_map (λ us. (x, u) ∷ us) r ≡ Some ss → ((us : Steps) → all_within answers ≡ Some us → answers ≡ map marked us) → (x, Some u) ∷ answers ≡ map marked ss
    by_rest None is e rest = absurd (cc e)
    by_rest (Some us) is e rest =
        let whole : Steps = (x, u) ∷ us in
        let k : Some whole ≡ Some ss = e in
        let j : whole ≡ ss = cc k in
        let one : Answered = (x, Some u) in ap (λ zs. one ∷ zs) (rest us is) ∙ ap (map marked) j

past_among : (answers : List Answered) → all_within answers ≡ None → (x : Action) × Contains answers (x, None)
past_among [] e = absurd (cc e)
past_among ((x, None) ∷ answers) e = (x, contains_here {X = Answered} (x, None) answers)
past_among ((x, Some u) ∷ answers) e = by_rest (all_within answers) refl e (past_among answers)
  where
    by_rest : (r : Option Steps) → all_within answers ≡ r → option_map (λ us. (x, u) ∷ us) r ≡ None → (all_within answers ≡ None → (y : Action) × Contains answers (y, None)) → (y : Action) × Contains {X = Answered} ((x, Some u) ∷ answers) (y, None)
    by_rest None is e rest = let r = rest is in let h = r.1 in (r.0, (suc h.0, omega (arith, h.1), h.2))
    by_rest (Some us) is e rest = absurd (cc e)

-- ---- the form of a term by what is answered of it

module _ (s : Script) (t : Process) (within : IsTrue (fits t)) where
  form_by_steps : (ss : Steps) (f : Form) → cause_in s t ≡ None → StepsAre s t ss → ((x : Action) (u : Process) → IsOneOf ss x u → fits u ≡ true) → IsFormBySteps ss f → IsFormOf s t f
  form_by_steps ss f clear are all by =
      let free : IsNotStuck s t = record { within = within; no_cause = clear; targets = λ x u step. all x u ((are x u).0 step) } in
      let each : (x : Action) (u : Process) → RuleStep s t x u ↔ IsOneOf by.sorted x u = λ x u. (
        λ step. one_of_contains by.sorted x u ((by.each (x, u)).0 (contains_one_of ss x u ((are x u).0 step))),
        λ h. (are x u).1 (one_of_contains ss x u ((by.each (x, u)).1 (contains_one_of by.sorted x u h))),
      ) in
      subst (λ g. IsFormOf s t g) (sym by.is) (fired s t by.sorted free each by.rise)

  module _ (answers : List Answered) (answered : IsAnswered s t answers) where
    -- each step of those that are all within the limits
    answered_steps : (ss : Steps) → answers ≡ map marked ss → (f : Form) → IsFormBySteps ss f → IsFormOf s t f
    answered_steps ss are f by =
        let P : Action → Option Process → List Answered → Type 0 = λ x t rs. Contains rs (x, t) in
        let sound : (x : Action) (u : Process) → IsOneOf ss x u → RuleStep s t x u × (fits u ≡ true) = λ x u h.
        let r = answered.sound x (Some u) (subst (P x (Some u)) (sym are) (step_among Some x ss u h)) in
        let k = some_kept r.0 u r.2 in
        let Q : Process → Type 0 = λ v. RuleStep s t x v × (fits v ≡ true) in subst Q (sym k.0) (r.1, k.1)
        in
        let complete : (x : Action) (u : Process) → RuleStep s t x u → IsOneOf ss x u = λ x u step.
        let r = among_steps Some x ss (within_limits u) (subst (P x (within_limits u)) are (answered.complete x u step)) in
        let k = some_kept u r.0 (sym r.2) in
        let Q : Process → Type 0 = λ v. IsOneOf ss x v in subst Q k.0 r.1
        in form_by_steps ss f answered.no_cause (λ x u. (complete x u, λ h. (sound x u h).0)) (λ x u h. (sound x u h).1) by

    -- the form is by what is answered
    pub form_by_answer : (f : Form) → IsFormByAnswer answers f → IsFormOf s t f
    form_by_answer f by = by_all (all_within answers) refl by
      where
        by_all : (r : Option Steps) → all_within answers ≡ r → IsFormWithin r f → IsFormOf s t f
        by_all (Some ss) is h = answered_steps ss (all_marked answers ss is) f h
        by_all None is h =
            let l = past_among answers is in
            let r = answered.sound l.0 None l.1 in
            subst (λ g. IsFormOf s t g) (sym h) (by_step answered.no_cause (l.0, r.0, r.1, none_kept r.0 r.2))
