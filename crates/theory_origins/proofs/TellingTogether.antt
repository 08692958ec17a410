-- What is told of a parallel composition's step by what is told of its sides' steps.
use Rattle.std.proofs.Common.{◌≡◌, Bool, true, false, not, ◌&&◌, refl, sym, ◌∙◌, ap, ap₂, subst, arith, Option, Some, None, Result, Ok, Err, IsTrue}
use Rattle.std.specs.Option.{option_or}
use Rattle.std.specs.Result.{result_err}
use Rattle.theory_syntax.specs.Value.{Event, Action, Tau, Tick, Ev}
use Rattle.theory_syntax.specs.Process.{EventSet, Process, Omega, Interleaving, GeneralisedParallel, AlphabetisedParallel, Script}
use Rattle.theory_semantics.specs.Meaning.Evaluation.{Cause}
use Rattle.theory_semantics.specs.Meaning.Events.{event_test, has_event, passes}
use Rattle.theory_semantics.specs.Meaning.Faults.{cause_in}
use Rattle.theory_semantics.specs.Meaning.Limits.{fits}
use Rattle.theory_semantics.specs.Meaning.Stepping.{always, never}
use Rattle.theory_semantics.specs.Meaning.Transitions.{IsNotTick, IsOutside, IsWithinOnly, RuleStep, interleaving_left, interleaving_right, interleaving_tick_left, interleaving_tick_right, interleaving_tick, generalised_left, generalised_right, generalised_both, generalised_tick_left, generalised_tick_right, generalised_tick, alphabetised_left, alphabetised_right, alphabetised_both, alphabetised_tick_left, alphabetised_tick_right, alphabetised_tick}
use Rattle.theory_semantics.proofs.Causes.{alphabetised_cause, generalised_cause, interleaving_cause}
use Rattle.theory_syntax.proofs.Truths.{and_first, and_second}
use Rattle.theory_origins.specs.Origin.{Left, Right, OnSide, SideEnds, Origin, Ends, Below, Together, origin, ComesFrom}
use Rattle.theory_origins.specs.Telling.{EventOf, IsFree, IsParallel, TauOf, Tells, TellsBoth, TellsUnder, TellsWhere, event_both, event_left, event_right, tau_left, tau_right, tick_left, tick_right}
use Rattle.theory_origins.proofs.Ending.{ends_by_tick}
use Rattle.theory_origins.proofs.Telling.{none_first, none_second, to_target, within_by}

-- the same step, by the origin that the part's step has
through : {s : Script} {p t : Process} {x : Action} (f : Origin → Origin) (m o : Origin) → m ≡ o → ComesFrom s p x t (f m) → ComesFrom s p x t (f o)
through f m o e c = (c.0, c.1 ∙ ap f e)

pub where_true : (b : Bool) (T : Option Origin → Type 0) (o : Origin) → TellsWhere b T (Some o) → (b ≡ true) × T (Some o)
where_true true T o h = (refl, h)
where_true false T o h = absurd (cc h)

pub where_none : (b : Bool) (T : Option Origin → Type 0) → TellsWhere b T None → b ≡ true → T None
where_none true T h is = h
where_none false T h is = absurd (cc is)

module _ (s : Script) (under : Process → Process → Process) (left_free right_free shared : Event → Bool) (rules : IsParallel s under left_free right_free shared) (p q : Process) where
  ended_within : (r u : Process) → RuleStep s r Tick u → IsTrue (fits u)
  ended_within r u step = let P : Process → Type 0 = λ w. IsTrue (fits w) in subst P (sym (ends_by_tick s r u step)) refl

  no_tau : (t : Process) → TellsUnder s (λ u. under u q) p Tau t None → TellsUnder s (λ v. under p v) q Tau t None → TellsUnder s (λ u. under u q) p Tick t None → TellsUnder s (λ v. under p v) q Tick t None →
      cause_in s p ≡ None → cause_in s q ≡ None → IsTrue (fits t) → ¬ TauOf s under p q t
  no_tau t h k m n clear other within (tau_left {u = u} step) = h clear u refl (rules.within u q within).0 step
  no_tau t h k m n clear other within (tau_right {v = v} step) = k other v refl (rules.within p v within).1 step
  no_tau t h k m n clear other within (tick_left {u = u} step) = m clear u (ap (λ w. under w q) (sym (ends_by_tick s p u step))) (ended_within p u step) step
  no_tau t h k m n clear other within (tick_right {v = v} step) = n other v (ap (λ w. under p w) (sym (ends_by_tick s q v step))) (ended_within q v step) step

  pub parallel_no_tau : (t : Process) → TellsUnder s (λ u. under u q) p Tau t None → TellsUnder s (λ v. under p v) q Tau t None → TellsUnder s (λ u. under u q) p Tick t None → TellsUnder s (λ v. under p v) q Tick t None →
      Tells s (under p q) Tau t None
  parallel_no_tau t h k i j clear within step =
      let parts = rules.causes p q clear in no_tau t h k i j parts.0 parts.1 within (rules.taus p q t step)

  pub left_comes : (x : Action) (t : Process) (o : Origin) → IsFree left_free x → TellsUnder s (λ u. under u q) p x t (Some o) → ComesFrom s (under p q) x t (Below (OnSide Left) o)
  left_comes x t o free h = to_target h.1 (through (Below (OnSide Left)) (origin h.2.0) o h.2.1 (rules.left p q h.0 x free h.2.0))

  pub right_comes : (x : Action) (t : Process) (o : Origin) → IsFree right_free x → TellsUnder s (λ v. under p v) q x t (Some o) → ComesFrom s (under p q) x t (Below (OnSide Right) o)
  right_comes x t o free h = to_target h.1 (through (Below (OnSide Right)) (origin h.2.0) o h.2.1 (rules.right p q h.0 x free h.2.0))

  pub left_ends : (t : Process) (o : Origin) → TellsUnder s (λ u. under u q) p Tick t (Some o) → ComesFrom s (under p q) Tau t (Below (SideEnds Left) o)
  left_ends t o h = to_target (h.1 ∙ ap (λ w. under w q) (ends_by_tick s p h.0 h.2.0)) (through (Below (SideEnds Left)) (origin h.2.0) o h.2.1 (rules.left_ends p q h.0 h.2.0))

  pub right_ends : (t : Process) (o : Origin) → TellsUnder s (λ v. under p v) q Tick t (Some o) → ComesFrom s (under p q) Tau t (Below (SideEnds Right) o)
  right_ends t o h = to_target (h.1 ∙ ap (λ w. under p w) (ends_by_tick s q h.0 h.2.0)) (through (Below (SideEnds Right)) (origin h.2.0) o h.2.1 (rules.right_ends p q h.0 h.2.0))

  no_event : (e : Event) (t : Process) → TellsWhere (left_free e) (TellsUnder s (λ u. under u q) p (Ev e) t) None → TellsWhere (right_free e) (TellsUnder s (λ v. under p v) q (Ev e) t) None →
      TellsWhere (shared e) (TellsBoth s under p q (Ev e) t) None → cause_in s p ≡ None → cause_in s q ≡ None → IsTrue (fits t) → ¬ EventOf s under left_free right_free shared p q e t
  no_event e t h k i clear other within (event_left {u = u} free step) = where_none (left_free e) (TellsUnder s (λ u. under u q) p (Ev e) t) h free clear u refl (rules.within u q within).0 step
  no_event e t h k i clear other within (event_right {v = v} free step) = where_none (right_free e) (TellsUnder s (λ v. under p v) q (Ev e) t) k free other v refl (rules.within p v within).1 step
  no_event e t h k i clear other within (event_both {u = u} {v = v} is_shared step with) =
      let parts = rules.within u v within in where_none (shared e) (TellsBoth s under p q (Ev e) t) i is_shared clear other u v refl parts.0 parts.1 step with

  pub both_of : (e : Event) (t : Process) (o : Origin) → IsTrue (shared e) → TellsBoth s under p q (Ev e) t (Some o) → ComesFrom s (under p q) (Ev e) t o
  both_of e t o is_shared h =
      let c = rules.both p q h.0 h.1 e is_shared h.6.0 h.7.0 in
      to_target h.4 (c.0, c.1 ∙ (ap₂ Together h.6.1 h.7.1 ∙ sym h.5))

  pub parallel_no_event : (e : Event) (t : Process) → TellsWhere (left_free e) (TellsUnder s (λ u. under u q) p (Ev e) t) None → TellsWhere (right_free e) (TellsUnder s (λ v. under p v) q (Ev e) t) None →
      TellsWhere (shared e) (TellsBoth s under p q (Ev e) t) None → Tells s (under p q) (Ev e) t None
  parallel_no_event e t h k i clear within step =
      let parts = rules.causes p q clear in no_event e t h k i parts.0 parts.1 within (rules.events p q t e step)

  pub parallel_ends : (t : Process) → p ≡ Omega → q ≡ Omega → t ≡ Omega → ComesFrom s (under p q) Tick t Ends
  parallel_ends t first second is =
      let P : Process → Type 0 = λ w. ComesFrom s (under w q) Tick t Ends in
      let Q : Process → Type 0 = λ w. ComesFrom s (under Omega w) Tick t Ends in
      subst P (sym first) (subst Q (sym second) (to_target is rules.ended))

-- ---- the three compositions

module _ (s : Script) where
  not_tick : (x : Action) → IsFree always x → IsNotTick x
  not_tick Tau free = tt
  not_tick Tick free = absurd free
  not_tick (Ev e) free = tt

  interleaving_taus : (p q t : Process) → RuleStep s (Interleaving p q) Tau t → TauOf s Interleaving p q t
  interleaving_taus p q t (interleaving_left free h) = tau_left h
  interleaving_taus p q t (interleaving_right free h) = tau_right h
  interleaving_taus p q t (interleaving_tick_left h) = tick_left h
  interleaving_taus p q t (interleaving_tick_right h) = tick_right h

  interleaving_events : (p q t : Process) (e : Event) → RuleStep s (Interleaving p q) (Ev e) t → EventOf s Interleaving always always never p q e t
  interleaving_events p q t e (interleaving_left free h) = event_left refl h
  interleaving_events p q t e (interleaving_right free h) = event_right refl h

  interleaving_ticks : (p q t : Process) → RuleStep s (Interleaving p q) Tick t → (p ≡ Omega) × (q ≡ Omega) × (t ≡ Omega)
  interleaving_ticks p q t (interleaving_left free h) = absurd free
  interleaving_ticks p q t (interleaving_right free h) = absurd free
  interleaving_ticks p q t interleaving_tick = (refl, refl, refl)

  pub interleaving_rules : IsParallel s Interleaving always always never
  interleaving_rules = record {
    left = λ p q u x free h. (interleaving_left (not_tick x free) h, refl);
    right = λ p q v x free h. (interleaving_right (not_tick x free) h, refl);
    both = λ p q u v e is_shared h k. absurd (cc is_shared);
    left_ends = λ p q u h. (interleaving_tick_left h, refl);
    right_ends = λ p q v h. (interleaving_tick_right h, refl);
    ended = (interleaving_tick, refl);
    taus = interleaving_taus;
    events = interleaving_events;
    ticks = interleaving_ticks;
    causes = λ p q clear. (none_first (cause_in s p) (cause_in s q) (sym (interleaving_cause s p q) ∙ clear), none_second (cause_in s p) (cause_in s q) (sym (interleaving_cause s p q) ∙ clear));
    within = λ u v h. (within_by u (Interleaving u v) (omega arith) (omega arith) h, within_by v (Interleaving u v) (omega arith) (omega arith) h);
  }

pub false_of : (b : Bool) → not b ≡ true → b ≡ false
false_of true h = absurd (cc h)
false_of false h = refl

pub not_of : (b : Bool) → b ≡ false → not b ≡ true
not_of true h = absurd (cc h)
not_of false h = refl

and_of : (b c : Bool) → b ≡ true → c ≡ true → (b && c) ≡ true
and_of true true h k = refl
and_of true false h k = absurd (cc k)
and_of false c h k = absurd (cc h)

module _ (s : Script) (a : EventSet) (test : Event → Bool) (is : event_test s a ≡ Ok test) where
  -- the set has what passes its test
  pub has_is : (e : Event) → has_event s a e ≡ test e
  has_is e = ap (λ r. passes r e) is

  outside : (x : Action) → IsFree (λ e. not (test e)) x → IsOutside s a x
  outside Tau free = tt
  outside Tick free = absurd free
  outside (Ev e) free = has_is e ∙ false_of (test e) free

  generalised_taus : (p q t : Process) → RuleStep s (GeneralisedParallel p a q) Tau t → TauOf s (λ u v. GeneralisedParallel u a v) p q t
  generalised_taus p q t (generalised_left free h) = tau_left h
  generalised_taus p q t (generalised_right free h) = tau_right h
  generalised_taus p q t (generalised_tick_left h) = tick_left h
  generalised_taus p q t (generalised_tick_right h) = tick_right h

  generalised_events : (p q t : Process) (e : Event) → RuleStep s (GeneralisedParallel p a q) (Ev e) t → EventOf s (λ u v. GeneralisedParallel u a v) (λ e. not (test e)) (λ e. not (test e)) test p q e t
  generalised_events p q t e (generalised_left free h) = event_left (not_of (test e) (sym (has_is e) ∙ free)) h
  generalised_events p q t e (generalised_right free h) = event_right (not_of (test e) (sym (has_is e) ∙ free)) h
  generalised_events p q t e (generalised_both is_shared h k) = event_both (sym (has_is e) ∙ is_shared) h k

  generalised_ticks : (p q t : Process) → RuleStep s (GeneralisedParallel p a q) Tick t → (p ≡ Omega) × (q ≡ Omega) × (t ≡ Omega)
  generalised_ticks p q t (generalised_left free h) = absurd free
  generalised_ticks p q t (generalised_right free h) = absurd free
  generalised_ticks p q t generalised_tick = (refl, refl, refl)

  generalised_clear : (p q : Process) → cause_in s (GeneralisedParallel p a q) ≡ None → (cause_in s p ≡ None) × (cause_in s q ≡ None)
  generalised_clear p q clear =
      let sides = none_second (result_err (event_test s a)) (option_or (cause_in s p) (cause_in s q)) (sym (generalised_cause s p a q) ∙ clear) in
      (none_first (cause_in s p) (cause_in s q) sides, none_second (cause_in s p) (cause_in s q) sides)

  pub generalised_rules : IsParallel s (λ u v. GeneralisedParallel u a v) (λ e. not (test e)) (λ e. not (test e)) test
  generalised_rules = record {
    left = λ p q u x free h. (generalised_left (outside x free) h, refl);
    right = λ p q v x free h. (generalised_right (outside x free) h, refl);
    both = λ p q u v e is_shared h k. (generalised_both (has_is e ∙ is_shared) h k, refl);
    left_ends = λ p q u h. (generalised_tick_left h, refl);
    right_ends = λ p q v h. (generalised_tick_right h, refl);
    ended = (generalised_tick, refl);
    taus = generalised_taus;
    events = generalised_events;
    ticks = generalised_ticks;
    causes = generalised_clear;
    within = λ u v h. (within_by u (GeneralisedParallel u a v) (omega arith) (omega arith) h, within_by v (GeneralisedParallel u a v) (omega arith) (omega arith) h);
  }

module _ (s : Script) (a b : EventSet) (f g : Event → Bool) (is_f : event_test s a ≡ Ok f) (is_g : event_test s b ≡ Ok g) where
  within_only : (x : Action) → IsFree (λ e. f e && not (g e)) x → IsWithinOnly s a b x
  within_only Tau free = tt
  within_only Tick free = absurd free
  within_only (Ev e) free = (has_is s a f is_f e ∙ and_first (f e) (not (g e)) free, has_is s b g is_g e ∙ false_of (g e) (and_second (f e) (not (g e)) free))

  within_other : (x : Action) → IsFree (λ e. g e && not (f e)) x → IsWithinOnly s b a x
  within_other Tau free = tt
  within_other Tick free = absurd free
  within_other (Ev e) free = (has_is s b g is_g e ∙ and_first (g e) (not (f e)) free, has_is s a f is_f e ∙ false_of (f e) (and_second (g e) (not (f e)) free))

  alphabetised_taus : (p q t : Process) → RuleStep s (AlphabetisedParallel p a b q) Tau t → TauOf s (λ u v. AlphabetisedParallel u a b v) p q t
  alphabetised_taus p q t (alphabetised_left free h) = tau_left h
  alphabetised_taus p q t (alphabetised_right free h) = tau_right h
  alphabetised_taus p q t (alphabetised_tick_left h) = tick_left h
  alphabetised_taus p q t (alphabetised_tick_right h) = tick_right h

  alphabetised_events : (p q t : Process) (e : Event) → RuleStep s (AlphabetisedParallel p a b q) (Ev e) t →
      EventOf s (λ u v. AlphabetisedParallel u a b v) (λ e. f e && not (g e)) (λ e. g e && not (f e)) (λ e. f e && g e) p q e t
  alphabetised_events p q t e (alphabetised_left free h) = event_left (and_of (f e) (not (g e)) (sym (has_is s a f is_f e) ∙ free.0) (not_of (g e) (sym (has_is s b g is_g e) ∙ free.1))) h
  alphabetised_events p q t e (alphabetised_right free h) = event_right (and_of (g e) (not (f e)) (sym (has_is s b g is_g e) ∙ free.0) (not_of (f e) (sym (has_is s a f is_f e) ∙ free.1))) h
  alphabetised_events p q t e (alphabetised_both in_left in_right h k) = event_both (and_of (f e) (g e) (sym (has_is s a f is_f e) ∙ in_left) (sym (has_is s b g is_g e) ∙ in_right)) h k

  alphabetised_ticks : (p q t : Process) → RuleStep s (AlphabetisedParallel p a b q) Tick t → (p ≡ Omega) × (q ≡ Omega) × (t ≡ Omega)
  alphabetised_ticks p q t (alphabetised_left free h) = absurd free
  alphabetised_ticks p q t (alphabetised_right free h) = absurd free
  alphabetised_ticks p q t alphabetised_tick = (refl, refl, refl)

  alphabetised_clear : (p q : Process) → cause_in s (AlphabetisedParallel p a b q) ≡ None → (cause_in s p ≡ None) × (cause_in s q ≡ None)
  alphabetised_clear p q clear =
      let others = none_second (result_err (event_test s a)) (option_or (result_err (event_test s b)) (option_or (cause_in s p) (cause_in s q))) (sym (alphabetised_cause s p a b q) ∙ clear) in
      let sides = none_second (result_err (event_test s b)) (option_or (cause_in s p) (cause_in s q)) others in
      (none_first (cause_in s p) (cause_in s q) sides, none_second (cause_in s p) (cause_in s q) sides)

  pub alphabetised_rules : IsParallel s (λ u v. AlphabetisedParallel u a b v) (λ e. f e && not (g e)) (λ e. g e && not (f e)) (λ e. f e && g e)
  alphabetised_rules = record {
    left = λ p q u x free h. (alphabetised_left (within_only x free) h, refl);
    right = λ p q v x free h. (alphabetised_right (within_other x free) h, refl);
    both = λ p q u v e is_shared h k. (alphabetised_both (has_is s a f is_f e ∙ and_first (f e) (g e) is_shared) (has_is s b g is_g e ∙ and_second (f e) (g e) is_shared) h k, refl);
    left_ends = λ p q u h. (alphabetised_tick_left h, refl);
    right_ends = λ p q v h. (alphabetised_tick_right h, refl);
    ended = (alphabetised_tick, refl);
    taus = alphabetised_taus;
    events = alphabetised_events;
    ticks = alphabetised_ticks;
    causes = alphabetised_clear;
    within = λ u v h. (within_by u (AlphabetisedParallel u a b v) (omega arith) (omega arith) h, within_by v (AlphabetisedParallel u a b v) (omega arith) (omega arith) h);
  }

-- ---- sets without a test

module _ (s : Script) where
  pub err_cause : {X : Type 0} (r : Result X Cause) (c : Cause) (d : Option Cause) → r ≡ Err c → option_or (result_err r) d ≡ None → ⊥
  err_cause (Ok x) c d is clear = absurd (cc is)
  err_cause (Err e) c d is clear = absurd (cc clear)

  pub generalised_stuck : (p : Process) (a : EventSet) (q : Process) (c : Cause) (x : Action) (t : Process) → event_test s a ≡ Err c → Tells s (GeneralisedParallel p a q) x t None
  generalised_stuck p a q c x t is clear within step = err_cause (event_test s a) c (option_or (cause_in s p) (cause_in s q)) is (sym (generalised_cause s p a q) ∙ clear)

  pub alphabetised_stuck_left : (p : Process) (a b : EventSet) (q : Process) (c : Cause) (x : Action) (t : Process) → event_test s a ≡ Err c → Tells s (AlphabetisedParallel p a b q) x t None
  alphabetised_stuck_left p a b q c x t is clear within step =
      err_cause (event_test s a) c (option_or (result_err (event_test s b)) (option_or (cause_in s p) (cause_in s q))) is (sym (alphabetised_cause s p a b q) ∙ clear)

  pub alphabetised_stuck_right : (p : Process) (a b : EventSet) (q : Process) (c : Cause) (x : Action) (t : Process) → event_test s b ≡ Err c → Tells s (AlphabetisedParallel p a b q) x t None
  alphabetised_stuck_right p a b q c x t is clear within step =
      err_cause (event_test s b) c (option_or (cause_in s p) (cause_in s q)) is
      (none_second (result_err (event_test s a)) (option_or (result_err (event_test s b)) (option_or (cause_in s p) (cause_in s q))) (sym (alphabetised_cause s p a b q) ∙ clear))
