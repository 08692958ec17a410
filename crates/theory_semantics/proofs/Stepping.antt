-- The computed steps are exactly the rule steps.
use Rattle.std.proofs.Common.{◌≡◌, ℕ, zero, suc, ◌≤◌, Bool, true, false, not, ◌&&◌, cond, List, [], ◌∷◌, ◌++◌, refl, sym, ◌∙◌, ap, subst, arith, inl, inr, ◌⊎◌, ⊎_elim, Contains, Result, Ok, Err, IsTrue, IsFalse}
use Rattle.std.proofs.lemmas.Bool.{and_from, not-true, not_from_false}
use Rattle.theory_syntax.specs.Value.{Value, Event, event_eq, Action, Tau, Tick, Ev}
use Rattle.theory_syntax.specs.Expression.{Expression, Expressions}
use Rattle.theory_semantics.specs.Meaning.Evaluation.{Cause}
use Rattle.theory_syntax.specs.Process.{Field, EventSet, RenamingPair, Process, Stop, Skip, Omega, Call, Prefix, Guard, If, ExternalChoice, InternalChoice, Sequential, Interleaving, Interrupt, GeneralisedParallel, AlphabetisedParallel, Hiding, Renaming, ReplicatedExternalChoice, ReplicatedInternalChoice, ReplicatedInterleaving, SlidingChoice, Script}
use Rattle.theory_semantics.specs.Meaning.Substitution.{put}
use Rattle.theory_semantics.specs.Meaning.Events.{Communication, prefix_communications, condition, elements, has_event, images, called, instances}
use Rattle.theory_semantics.specs.Meaning.Faults.{height}
use Rattle.theory_semantics.specs.Meaning.Unfolding.{settled}
use Rattle.theory_semantics.specs.Meaning.Transitions.{IsVisible, IsNotTick, IsOutside, IsWithinOnly, left_grouped, chain, RuleStep, skip, prefix, call, guard, if_true, if_false, external_tau_left, external_tau_right, external_left, external_right, internal_left, internal_right, sequential, sequential_tick, interleaving_left, interleaving_right, interleaving_tick_left, interleaving_tick_right, interleaving_tick, interrupt_left, interrupt_tick, interrupt_tau_right, interrupt_right, generalised_left, generalised_right, generalised_both, generalised_tick_left, generalised_tick_right, generalised_tick, alphabetised_left, alphabetised_right, alphabetised_both, alphabetised_tick_left, alphabetised_tick_right, alphabetised_tick, hiding_tau, hiding_hidden, hiding_event, hiding_tick, renaming_tau, renaming_event, renaming_tick, replicated_external, replicated_internal, replicated_interleaving, sliding_tau, sliding_left, sliding_away}
use Rattle.theory_semantics.specs.Meaning.Stepping.{Steps, each_step, communication_steps, prefix_steps, call_steps, settled_steps, branch_steps, leave, stay, meet, both_ended, parallel_steps, always, never, external_steps, internal_steps, interleaving_steps, hide, image_steps, rename, grouped_steps, chain_steps, with_steps, over, steps_within, rule_steps}
use Rattle.theory_semantics.specs.Laws.Statements.{IsOneOf, StepsAre}
use Rattle.theory_syntax.proofs.Equalities.{event_same, event_refl}
use Rattle.theory_syntax.proofs.Truths.{and_first, and_second}
use Rattle.theory_syntax.proofs.Members.{contains_cases, contains_here, contains_there}
use Rattle.theory_semantics.proofs.Causes.{height-put, height-pos}

-- ---- steps of lists

pub append_cases : (ss zs : Steps) (x : Action) (t : Process) → IsOneOf (ss ++ zs) x t → IsOneOf ss x t ⊎ IsOneOf zs x t
append_cases [] zs x t h = inr h
append_cases (a ∷ ss) zs x t (inl e) = inl (inl e)
append_cases (a ∷ ss) zs x t (inr h) = ⊎_elim (λ k. inl (inr k)) (λ k. inr k) (append_cases ss zs x t h)

pub append_left : (ss zs : Steps) (x : Action) (t : Process) → IsOneOf ss x t → IsOneOf (ss ++ zs) x t
append_left [] zs x t h = absurd h
append_left (a ∷ ss) zs x t (inl e) = inl e
append_left (a ∷ ss) zs x t (inr h) = inr (append_left ss zs x t h)

pub append_right : (ss zs : Steps) (x : Action) (t : Process) → IsOneOf zs x t → IsOneOf (ss ++ zs) x t
append_right [] zs x t h = h
append_right (a ∷ ss) zs x t h = inr (append_right ss zs x t h)

pub each_in : (f : Action → Process → Steps) (ss : Steps) (x : Action) (t : Process) → IsOneOf (each_step f ss) x t → (y : Action) × (u : Process) × IsOneOf ss y u × IsOneOf (f y u) x t
each_in f [] x t h = absurd h
each_in f (z ∷ ss) x t h =
    ⊎_elim (λ k. (z.0, z.1, inl (refl, refl), k)) (λ k. let r = each_in f ss x t k in (r.0, r.1, inr r.2, r.3)) (append_cases (f z.0 z.1) (each_step f ss) x t h)

pub each_of : (f : Action → Process → Steps) (ss : Steps) (y : Action) (u : Process) (x : Action) (t : Process) → IsOneOf ss y u → IsOneOf (f y u) x t → IsOneOf (each_step f ss) x t
each_of f [] y u x t k h = absurd k
each_of f (z ∷ ss) y u x t (inl e) h =
    let P : Action → Type 0 = λ a. IsOneOf (f a u) x t in let Q : Process → Type 0 = λ p. IsOneOf (f z.0 p) x t in
    append_left (f z.0 z.1) (each_step f ss) x t (subst Q e.1 (subst P e.0 h))
each_of f (z ∷ ss) y u x t (inr k) h = append_right (f z.0 z.1) (each_step f ss) x t (each_of f ss y u x t k h)

-- a step along two equations
moved : {s : Script} {p t u : Process} {x y : Action} → y ≡ x → u ≡ t → RuleStep s p x t → RuleStep s p y u
moved {s} {p} {t} {u} {x} {y} e f h = let P : Action → Type 0 = λ z. RuleStep s p z u in let Q : Process → Type 0 = λ w. RuleStep s p x w in subst P (sym e) (subst Q (sym f) h)

cond_in : (b : Bool) (y : Action) (u : Process) (x : Action) (t : Process) → IsOneOf (cond b ((y, u) ∷ []) []) x t → (b ≡ true) × (x ≡ y) × (t ≡ u)
cond_in true y u x t (inl e) = (refl, e.0, e.1)
cond_in true y u x t (inr e) = absurd e
cond_in false y u x t h = absurd h

cond_of : (b : Bool) (y : Action) (u : Process) → b ≡ true → IsOneOf (cond b ((y, u) ∷ []) []) y u
cond_of true y u e = inl (refl, refl)
cond_of false y u e = absurd (cc e)

-- ---- external choice

leave_visible : (under : Process → Process) (x : Action) (t : Process) → IsVisible x → IsOneOf (leave under x t) x t
leave_visible under Tau t v = absurd v
leave_visible under Tick t v = inl (refl, refl)
leave_visible under (Ev e) t v = inl (refl, refl)

external_left_in : (s : Script) (p q : Process) (y : Action) (u : Process) (x : Action) (t : Process) → RuleStep s p y u →
    IsOneOf (leave (λ v. ExternalChoice v q) y u) x t → RuleStep s (ExternalChoice p q) x t
external_left_in s p q Tau u x t h (inl e) = moved e.0 e.1 (external_tau_left h)
external_left_in s p q Tick u x t h (inl e) = moved e.0 e.1 (external_left tt h)
external_left_in s p q (Ev f) u x t h (inl e) = moved e.0 e.1 (external_left tt h)
external_left_in s p q Tau u x t h (inr e) = absurd e
external_left_in s p q Tick u x t h (inr e) = absurd e
external_left_in s p q (Ev f) u x t h (inr e) = absurd e

external_right_in : (s : Script) (p q : Process) (y : Action) (u : Process) (x : Action) (t : Process) → RuleStep s q y u →
    IsOneOf (leave (λ v. ExternalChoice p v) y u) x t → RuleStep s (ExternalChoice p q) x t
external_right_in s p q Tau u x t h (inl e) = moved e.0 e.1 (external_tau_right h)
external_right_in s p q Tick u x t h (inl e) = moved e.0 e.1 (external_right tt h)
external_right_in s p q (Ev f) u x t h (inl e) = moved e.0 e.1 (external_right tt h)
external_right_in s p q Tau u x t h (inr e) = absurd e
external_right_in s p q Tick u x t h (inr e) = absurd e
external_right_in s p q (Ev f) u x t h (inr e) = absurd e

external_of : (s : Script) (p : Process) (ps : Steps) (q : Process) (qs : Steps) → StepsAre s p ps → StepsAre s q qs → (x : Action) (t : Process) →
    RuleStep s (ExternalChoice p q) x t → IsOneOf (external_steps p ps q qs) x t
external_of s p ps q qs l r x t (external_tau_left {t = u} h) =
    append_left _ _ _ _ (each_of (leave (λ v. ExternalChoice v q)) ps Tau u Tau (ExternalChoice u q) ((l Tau u).0 h) (inl (refl, refl)))
external_of s p ps q qs l r x t (external_tau_right {t = u} h) =
    append_right (each_step (leave (λ v. ExternalChoice v q)) ps) _ _ _ (each_of (leave (λ v. ExternalChoice p v)) qs Tau u Tau (ExternalChoice p u) ((r Tau u).0 h) (inl (refl, refl)))
external_of s p ps q qs l r x t (external_left v h) =
    append_left _ _ _ _ (each_of (leave (λ v. ExternalChoice v q)) ps x t x t ((l x t).0 h) (leave_visible (λ v. ExternalChoice v q) x t v))
external_of s p ps q qs l r x t (external_right v h) =
    append_right (each_step (leave (λ v. ExternalChoice v q)) ps) _ _ _ (each_of (leave (λ v. ExternalChoice p v)) qs x t x t ((r x t).0 h) (leave_visible (λ v. ExternalChoice p v) x t v))

pub external_exact : (s : Script) (p : Process) (ps : Steps) (q : Process) (qs : Steps) → StepsAre s p ps → StepsAre s q qs → StepsAre s (ExternalChoice p q) (external_steps p ps q qs)
external_exact s p ps q qs l r x t = (
  external_of s p ps q qs l r x t,
  λ h. ⊎_elim
      (λ k. let m = each_in (leave (λ v. ExternalChoice v q)) ps x t k in external_left_in s p q m.0 m.1 x t ((l m.0 m.1).1 m.2) m.3)
      (λ k. let m = each_in (leave (λ v. ExternalChoice p v)) qs x t k in external_right_in s p q m.0 m.1 x t ((r m.0 m.1).1 m.2) m.3)
      (append_cases (each_step (leave (λ v. ExternalChoice v q)) ps) (each_step (leave (λ v. ExternalChoice p v)) qs) x t h),
)

-- ---- internal choice

internal_of : (s : Script) (p q : Process) (x : Action) (t : Process) → RuleStep s (InternalChoice p q) x t → IsOneOf ((Tau, settled s p) ∷ (Tau, settled s q) ∷ []) x t
internal_of s p q x t internal_left = inl (refl, refl)
internal_of s p q x t internal_right = inr (inl (refl, refl))

internal_in : (s : Script) (p q : Process) (x : Action) (t : Process) → IsOneOf ((Tau, settled s p) ∷ (Tau, settled s q) ∷ []) x t → RuleStep s (InternalChoice p q) x t
internal_in s p q x t (inl e) = moved e.0 e.1 internal_left
internal_in s p q x t (inr (inl e)) = moved e.0 e.1 internal_right
internal_in s p q x t (inr (inr e)) = absurd e

pub internal_exact : (s : Script) (p : Process) (ps : Steps) (q : Process) (qs : Steps) → StepsAre s p ps → StepsAre s q qs → StepsAre s (InternalChoice p q) (internal_steps s p ps q qs)
internal_exact s p ps q qs l r x t = (internal_of s p q x t, internal_in s p q x t)

-- ---- the parallel operators

-- what two sides do, by what each may do alone and what they share
data Parallel (left_free right_free shared : Event → Bool) (under : Process → Process → Process) (p : Process) (ps : Steps) (q : Process) (qs : Steps) : Action → Process → Type 0 where
  tau_left : (t : Process) → IsOneOf ps Tau t → Parallel left_free right_free shared under p ps q qs Tau (under t q)
  event_left : {e : Event} (t : Process) → left_free e ≡ true → IsOneOf ps (Ev e) t → Parallel left_free right_free shared under p ps q qs (Ev e) (under t q)
  tick_left : (t : Process) → IsOneOf ps Tick t → Parallel left_free right_free shared under p ps q qs Tau (under Omega q)
  tau_right : (t : Process) → IsOneOf qs Tau t → Parallel left_free right_free shared under p ps q qs Tau (under p t)
  event_right : {e : Event} (t : Process) → right_free e ≡ true → IsOneOf qs (Ev e) t → Parallel left_free right_free shared under p ps q qs (Ev e) (under p t)
  tick_right : (t : Process) → IsOneOf qs Tick t → Parallel left_free right_free shared under p ps q qs Tau (under p Omega)
  together : {e : Event} (t u : Process) → shared e ≡ true → IsOneOf ps (Ev e) t → IsOneOf qs (Ev e) u → Parallel left_free right_free shared under p ps q qs (Ev e) (under t u)
  ended : p ≡ Omega → q ≡ Omega → Parallel left_free right_free shared under p ps q qs Tick Omega

both_ended_in : (p q : Process) (x : Action) (t : Process) → IsOneOf (both_ended p q) x t → (p ≡ Omega) × (q ≡ Omega) × (x ≡ Tick) × (t ≡ Omega)
both_ended_in Omega Omega x t (inl e) = (refl, refl, e.0, e.1)
both_ended_in Omega Omega x t (inr e) = absurd e
both_ended_in _ _ x t h = absurd h

module _ (left_free right_free shared : Event → Bool) (under : Process → Process → Process) (p : Process) (ps : Steps) (q : Process) (qs : Steps) where
  along : (x y : Action) (t u : Process) → y ≡ x → u ≡ t → Parallel left_free right_free shared under p ps q qs x t → Parallel left_free right_free shared under p ps q qs y u
  along x y t u e f h =
      let P : Action → Type 0 = λ z. Parallel left_free right_free shared under p ps q qs z u in
      let Q : Process → Type 0 = λ w. Parallel left_free right_free shared under p ps q qs x w in
      subst P (sym e) (subst Q (sym f) h)

  left_in : (y : Action) (u : Process) (x : Action) (t : Process) → IsOneOf ps y u → IsOneOf (stay left_free (λ v. under v q) ((Tau, under Omega q) ∷ []) y u) x t →
      Parallel left_free right_free shared under p ps q qs x t
  left_in Tau u x t k (inl e) = along Tau x (under u q) t e.0 e.1 (tau_left _ k)
  left_in Tau u x t k (inr e) = absurd e
  left_in Tick u x t k (inl e) = along Tau x (under Omega q) t e.0 e.1 (tick_left _ k)
  left_in Tick u x t k (inr e) = absurd e
  left_in (Ev f) u x t k h = let c = cond_in (left_free f) (Ev f) (under u q) x t h in along (Ev f) x (under u q) t c.1 c.2 (event_left _ c.0 k)

  right_in : (y : Action) (u : Process) (x : Action) (t : Process) → IsOneOf qs y u → IsOneOf (stay right_free (λ v. under p v) ((Tau, under p Omega) ∷ []) y u) x t →
      Parallel left_free right_free shared under p ps q qs x t
  right_in Tau u x t k (inl e) = along Tau x (under p u) t e.0 e.1 (tau_right _ k)
  right_in Tau u x t k (inr e) = absurd e
  right_in Tick u x t k (inl e) = along Tau x (under p Omega) t e.0 e.1 (tick_right _ k)
  right_in Tick u x t k (inr e) = absurd e
  right_in (Ev f) u x t k h = let c = cond_in (right_free f) (Ev f) (under p u) x t h in along (Ev f) x (under p u) t c.1 c.2 (event_right _ c.0 k)

  meet_in : (y : Action) (u : Process) (z : Action) (v : Process) (x : Action) (t : Process) → IsOneOf ps y u → IsOneOf qs z v → IsOneOf (meet shared under y u z v) x t →
      Parallel left_free right_free shared under p ps q qs x t
  meet_in (Ev e) u (Ev f) v x t k l h =
      let c = cond_in (event_eq e f && shared e) (Ev e) (under u v) x t h in
      let same = event_same e f (and_first (event_eq e f) (shared e) c.0) in
      let P : Event → Type 0 = λ g. IsOneOf qs (Ev g) v in
      along (Ev e) x (under u v) t c.1 c.2 (together _ _ (and_second (event_eq e f) (shared e) c.0) k (subst P (sym same) l))
  meet_in _ u _ v x t k l h = absurd h

  parallel_in : (x : Action) (t : Process) → IsOneOf (parallel_steps left_free right_free shared under p ps q qs) x t → Parallel left_free right_free shared under p ps q qs x t
  parallel_in x t h =
      ⊎_elim
      (λ k. let m = each_in (stay left_free (λ v. under v q) ((Tau, under Omega q) ∷ [])) ps x t k in left_in m.0 m.1 x t m.2 m.3)
      (λ k. ⊎_elim
      (λ l. let m = each_in (stay right_free (λ v. under p v) ((Tau, under p Omega) ∷ [])) qs x t l in right_in m.0 m.1 x t m.2 m.3)
      (λ l. ⊎_elim
      (λ o. let m = each_in (λ y u. each_step (meet shared under y u) qs) ps x t o in
      let n = each_in (meet shared under m.0 m.1) qs x t m.3 in meet_in m.0 m.1 n.0 n.1 x t m.2 n.2 n.3)
      (λ o. let b = both_ended_in p q x t o in along Tick x Omega t b.2 b.3 (ended b.0 b.1))
      (append_cases (each_step (λ y u. each_step (meet shared under y u) qs) ps) (both_ended p q) x t l))
      (append_cases (each_step (stay right_free (λ v. under p v) ((Tau, under p Omega) ∷ [])) qs) (each_step (λ y u. each_step (meet shared under y u) qs) ps ++ both_ended p q) x t k))
      (append_cases (each_step (stay left_free (λ v. under v q) ((Tau, under Omega q) ∷ [])) ps)
      (each_step (stay right_free (λ v. under p v) ((Tau, under p Omega) ∷ [])) qs ++ (each_step (λ y u. each_step (meet shared under y u) qs) ps ++ both_ended p q)) x t h)

  at_left : (x : Action) (t : Process) → IsOneOf (each_step (stay left_free (λ v. under v q) ((Tau, under Omega q) ∷ [])) ps) x t →
      IsOneOf (parallel_steps left_free right_free shared under p ps q qs) x t
  at_left x t h = append_left _ _ x t h

  at_right : (x : Action) (t : Process) → IsOneOf (each_step (stay right_free (λ v. under p v) ((Tau, under p Omega) ∷ [])) qs) x t →
      IsOneOf (parallel_steps left_free right_free shared under p ps q qs) x t
  at_right x t h = append_right (each_step (stay left_free (λ v. under v q) ((Tau, under Omega q) ∷ [])) ps) _ x t (append_left _ _ x t h)

  at_meet : (x : Action) (t : Process) → IsOneOf (each_step (λ y u. each_step (meet shared under y u) qs) ps) x t → IsOneOf (parallel_steps left_free right_free shared under p ps q qs) x t
  at_meet x t h =
      append_right (each_step (stay left_free (λ v. under v q) ((Tau, under Omega q) ∷ [])) ps) _ x t
      (append_right (each_step (stay right_free (λ v. under p v) ((Tau, under p Omega) ∷ [])) qs) _ x t (append_left _ _ x t h))

  at_end : (x : Action) (t : Process) → IsOneOf (both_ended p q) x t → IsOneOf (parallel_steps left_free right_free shared under p ps q qs) x t
  at_end x t h =
      append_right (each_step (stay left_free (λ v. under v q) ((Tau, under Omega q) ∷ [])) ps) _ x t
      (append_right (each_step (stay right_free (λ v. under p v) ((Tau, under p Omega) ∷ [])) qs) _ x t
      (append_right (each_step (λ y u. each_step (meet shared under y u) qs) ps) _ x t h))

  parallel_of : (x : Action) (t : Process) → Parallel left_free right_free shared under p ps q qs x t → IsOneOf (parallel_steps left_free right_free shared under p ps q qs) x t
  parallel_of x t (tau_left u k) = at_left _ _ (each_of (stay left_free (λ v. under v q) ((Tau, under Omega q) ∷ [])) ps Tau u _ _ k (inl (refl, refl)))
  parallel_of x t (event_left {e = e} u free k) =
      at_left _ _ (each_of (stay left_free (λ v. under v q) ((Tau, under Omega q) ∷ [])) ps (Ev e) u _ _ k (cond_of (left_free e) (Ev e) (under u q) free))
  parallel_of x t (tick_left u k) = at_left _ _ (each_of (stay left_free (λ v. under v q) ((Tau, under Omega q) ∷ [])) ps Tick u _ _ k (inl (refl, refl)))
  parallel_of x t (tau_right u k) = at_right _ _ (each_of (stay right_free (λ v. under p v) ((Tau, under p Omega) ∷ [])) qs Tau u _ _ k (inl (refl, refl)))
  parallel_of x t (event_right {e = e} u free k) =
      at_right _ _ (each_of (stay right_free (λ v. under p v) ((Tau, under p Omega) ∷ [])) qs (Ev e) u _ _ k (cond_of (right_free e) (Ev e) (under p u) free))
  parallel_of x t (tick_right u k) = at_right _ _ (each_of (stay right_free (λ v. under p v) ((Tau, under p Omega) ∷ [])) qs Tick u _ _ k (inl (refl, refl)))
  parallel_of x t (together {e = e} v w is k l) =
      at_meet _ _ (each_of (λ y u. each_step (meet shared under y u) qs) ps (Ev e) v _ _ k
      (each_of (meet shared under (Ev e) v) qs (Ev e) w _ _ l (cond_of (event_eq e e && shared e) (Ev e) (under v w) (and_from (event_eq e e) (shared e) (event_refl e) is))))
  parallel_of x t (ended a b) =
      let P : Process → Type 0 = λ z. IsOneOf (both_ended z q) Tick Omega in let Q : Process → Type 0 = λ z. IsOneOf (both_ended Omega z) Tick Omega in
      at_end Tick Omega (subst P (sym a) (subst Q (sym b) (inl (refl, refl))))

-- ---- interleaving

interleaving_in : (s : Script) (p : Process) (ps : Steps) (q : Process) (qs : Steps) → StepsAre s p ps → StepsAre s q qs → (x : Action) (t : Process) →
    Parallel always always never Interleaving p ps q qs x t → RuleStep s (Interleaving p q) x t
interleaving_in s p ps q qs l r x t (tau_left _ k) = interleaving_left tt ((l _ _).1 k)
interleaving_in s p ps q qs l r x t (event_left _ free k) = interleaving_left tt ((l _ _).1 k)
interleaving_in s p ps q qs l r x t (tick_left _ k) = interleaving_tick_left ((l _ _).1 k)
interleaving_in s p ps q qs l r x t (tau_right _ k) = interleaving_right tt ((r _ _).1 k)
interleaving_in s p ps q qs l r x t (event_right _ free k) = interleaving_right tt ((r _ _).1 k)
interleaving_in s p ps q qs l r x t (tick_right _ k) = interleaving_tick_right ((r _ _).1 k)
interleaving_in s p ps q qs l r x t (together _ _ is k m) = absurd (cc is)
interleaving_in s p ps q qs l r x t (ended a b) =
    let P : Process → Type 0 = λ z. RuleStep s (Interleaving z q) Tick Omega in let Q : Process → Type 0 = λ z. RuleStep s (Interleaving Omega z) Tick Omega in
    subst P (sym a) (subst Q (sym b) interleaving_tick)

interleaving_stay_left : (p : Process) (ps : Steps) (q : Process) (qs : Steps) (x : Action) (t : Process) → IsNotTick x → IsOneOf ps x t →
    Parallel always always never Interleaving p ps q qs x (Interleaving t q)
interleaving_stay_left p ps q qs Tau t v k = tau_left _ k
interleaving_stay_left p ps q qs Tick t v k = absurd v
interleaving_stay_left p ps q qs (Ev e) t v k = event_left _ refl k

interleaving_stay_right : (p : Process) (ps : Steps) (q : Process) (qs : Steps) (x : Action) (t : Process) → IsNotTick x → IsOneOf qs x t →
    Parallel always always never Interleaving p ps q qs x (Interleaving p t)
interleaving_stay_right p ps q qs Tau t v k = tau_right _ k
interleaving_stay_right p ps q qs Tick t v k = absurd v
interleaving_stay_right p ps q qs (Ev e) t v k = event_right _ refl k

interleaving_of : (s : Script) (p : Process) (ps : Steps) (q : Process) (qs : Steps) → StepsAre s p ps → StepsAre s q qs → (x : Action) (t : Process) →
    RuleStep s (Interleaving p q) x t → Parallel always always never Interleaving p ps q qs x t
interleaving_of s p ps q qs l r x t (interleaving_left {t = u} v h) = interleaving_stay_left p ps q qs x u v ((l x u).0 h)
interleaving_of s p ps q qs l r x t (interleaving_right {t = u} v h) = interleaving_stay_right p ps q qs x u v ((r x u).0 h)
interleaving_of s p ps q qs l r x t (interleaving_tick_left h) = tick_left _ ((l _ _).0 h)
interleaving_of s p ps q qs l r x t (interleaving_tick_right h) = tick_right _ ((r _ _).0 h)
interleaving_of s p ps q qs l r x t interleaving_tick = ended refl refl

pub interleaving_exact : (s : Script) (p : Process) (ps : Steps) (q : Process) (qs : Steps) → StepsAre s p ps → StepsAre s q qs → StepsAre s (Interleaving p q) (interleaving_steps p ps q qs)
interleaving_exact s p ps q qs l r x t = (
  λ h. parallel_of always always never Interleaving p ps q qs x t (interleaving_of s p ps q qs l r x t h),
  λ h. interleaving_in s p ps q qs l r x t (parallel_in always always never Interleaving p ps q qs x t h),
)

-- ---- generalised parallel

module _ (s : Script) (a : EventSet) (p : Process) (ps : Steps) (q : Process) (qs : Steps) (l : StepsAre s p ps) (r : StepsAre s q qs) where
  generalised_in : (x : Action) (t : Process) → Parallel (λ e. not (has_event s a e)) (λ e. not (has_event s a e)) (has_event s a) (λ u v. GeneralisedParallel u a v) p ps q qs x t →
      RuleStep s (GeneralisedParallel p a q) x t
  generalised_in x t (tau_left _ k) = generalised_left tt ((l _ _).1 k)
  generalised_in x t (event_left {e = e} _ free k) = generalised_left (not-true (has_event s a e) free) ((l _ _).1 k)
  generalised_in x t (tick_left _ k) = generalised_tick_left ((l _ _).1 k)
  generalised_in x t (tau_right _ k) = generalised_right tt ((r _ _).1 k)
  generalised_in x t (event_right {e = e} _ free k) = generalised_right (not-true (has_event s a e) free) ((r _ _).1 k)
  generalised_in x t (tick_right _ k) = generalised_tick_right ((r _ _).1 k)
  generalised_in x t (together _ _ is k m) = generalised_both is ((l _ _).1 k) ((r _ _).1 m)
  generalised_in x t (ended b c) =
      let P : Process → Type 0 = λ z. RuleStep s (GeneralisedParallel z a q) Tick Omega in let Q : Process → Type 0 = λ z. RuleStep s (GeneralisedParallel Omega a z) Tick Omega in
      subst P (sym b) (subst Q (sym c) generalised_tick)

  generalised_stay_left : (x : Action) (t : Process) → IsOutside s a x → IsOneOf ps x t →
      Parallel (λ e. not (has_event s a e)) (λ e. not (has_event s a e)) (has_event s a) (λ u v. GeneralisedParallel u a v) p ps q qs x (GeneralisedParallel t a q)
  generalised_stay_left Tau t v k = tau_left t k
  generalised_stay_left Tick t v k = absurd v
  generalised_stay_left (Ev e) t v k = event_left t (not_from_false (has_event s a e) v) k

  generalised_stay_right : (x : Action) (t : Process) → IsOutside s a x → IsOneOf qs x t →
      Parallel (λ e. not (has_event s a e)) (λ e. not (has_event s a e)) (has_event s a) (λ u v. GeneralisedParallel u a v) p ps q qs x (GeneralisedParallel p a t)
  generalised_stay_right Tau t v k = tau_right t k
  generalised_stay_right Tick t v k = absurd v
  generalised_stay_right (Ev e) t v k = event_right t (not_from_false (has_event s a e) v) k

generalised_of : (s : Script) (a : EventSet) (p : Process) (ps : Steps) (q : Process) (qs : Steps) → StepsAre s p ps → StepsAre s q qs → (x : Action) (t : Process) →
    RuleStep s (GeneralisedParallel p a q) x t →
    Parallel (λ e. not (has_event s a e)) (λ e. not (has_event s a e)) (has_event s a) (λ u v. GeneralisedParallel u a v) p ps q qs x t
generalised_of s a p ps q qs l r x t (generalised_left {t = u} v h) = generalised_stay_left s a p ps q qs l r x u v ((l x u).0 h)
generalised_of s a p ps q qs l r x t (generalised_right {t = u} v h) = generalised_stay_right s a p ps q qs l r x u v ((r x u).0 h)
generalised_of s a p ps q qs l r x t (generalised_both {t = u} {u = w} is h k) = together u w is ((l _ _).0 h) ((r _ _).0 k)
generalised_of s a p ps q qs l r x t (generalised_tick_left h) = tick_left _ ((l _ _).0 h)
generalised_of s a p ps q qs l r x t (generalised_tick_right h) = tick_right _ ((r _ _).0 h)
generalised_of s a p ps q qs l r x t generalised_tick = ended refl refl

generalised_exact : (s : Script) (a : EventSet) (p : Process) (ps : Steps) (q : Process) (qs : Steps) → StepsAre s p ps → StepsAre s q qs →
    StepsAre s (GeneralisedParallel p a q) (parallel_steps (λ e. not (has_event s a e)) (λ e. not (has_event s a e)) (has_event s a) (λ u v. GeneralisedParallel u a v) p ps q qs)
generalised_exact s a p ps q qs l r x t = (
  λ h. parallel_of (λ e. not (has_event s a e)) (λ e. not (has_event s a e)) (has_event s a) (λ u v. GeneralisedParallel u a v) p ps q qs x t (generalised_of s a p ps q qs l r x t h),
  λ h. generalised_in s a p ps q qs l r x t (parallel_in (λ e. not (has_event s a e)) (λ e. not (has_event s a e)) (has_event s a) (λ u v. GeneralisedParallel u a v) p ps q qs x t h),
)

-- ---- alphabetised parallel

abbrev own_only : Script → EventSet → EventSet → Event → Bool
own_only s a b e = has_event s a e && not (has_event s b e)

abbrev in_both : Script → EventSet → EventSet → Event → Bool
in_both s a b e = has_event s a e && has_event s b e

own_in : (s : Script) (a b : EventSet) (e : Event) → own_only s a b e ≡ true → IsTrue (has_event s a e) × IsFalse (has_event s b e)
own_in s a b e h = (and_first (has_event s a e) (not (has_event s b e)) h, not-true (has_event s b e) (and_second (has_event s a e) (not (has_event s b e)) h))

own_of : (s : Script) (a b : EventSet) (e : Event) → IsTrue (has_event s a e) × IsFalse (has_event s b e) → own_only s a b e ≡ true
own_of s a b e h = and_from (has_event s a e) (not (has_event s b e)) h.0 (not_from_false (has_event s b e) h.1)

module _ (s : Script) (a b : EventSet) (p : Process) (ps : Steps) (q : Process) (qs : Steps) (l : StepsAre s p ps) (r : StepsAre s q qs) where
  alphabetised_in : (x : Action) (t : Process) → Parallel (own_only s a b) (own_only s b a) (in_both s a b) (λ u v. AlphabetisedParallel u a b v) p ps q qs x t →
      RuleStep s (AlphabetisedParallel p a b q) x t
  alphabetised_in x t (tau_left _ k) = alphabetised_left tt ((l _ _).1 k)
  alphabetised_in x t (event_left {e = e} _ free k) = alphabetised_left (own_in s a b e free) ((l _ _).1 k)
  alphabetised_in x t (tick_left _ k) = alphabetised_tick_left ((l _ _).1 k)
  alphabetised_in x t (tau_right _ k) = alphabetised_right tt ((r _ _).1 k)
  alphabetised_in x t (event_right {e = e} _ free k) = alphabetised_right (own_in s b a e free) ((r _ _).1 k)
  alphabetised_in x t (tick_right _ k) = alphabetised_tick_right ((r _ _).1 k)
  alphabetised_in x t (together {e = e} _ _ is k m) =
      alphabetised_both (and_first (has_event s a e) (has_event s b e) is) (and_second (has_event s a e) (has_event s b e) is) ((l _ _).1 k) ((r _ _).1 m)
  alphabetised_in x t (ended c d) =
      let P : Process → Type 0 = λ z. RuleStep s (AlphabetisedParallel z a b q) Tick Omega in let Q : Process → Type 0 = λ z. RuleStep s (AlphabetisedParallel Omega a b z) Tick Omega in
      subst P (sym c) (subst Q (sym d) alphabetised_tick)

  alphabetised_stay_left : (x : Action) (t : Process) → IsWithinOnly s a b x → IsOneOf ps x t →
      Parallel (own_only s a b) (own_only s b a) (in_both s a b) (λ u v. AlphabetisedParallel u a b v) p ps q qs x (AlphabetisedParallel t a b q)
  alphabetised_stay_left Tau t v k = tau_left t k
  alphabetised_stay_left Tick t v k = absurd v
  alphabetised_stay_left (Ev e) t v k = event_left t (own_of s a b e v) k

  alphabetised_stay_right : (x : Action) (t : Process) → IsWithinOnly s b a x → IsOneOf qs x t →
      Parallel (own_only s a b) (own_only s b a) (in_both s a b) (λ u v. AlphabetisedParallel u a b v) p ps q qs x (AlphabetisedParallel p a b t)
  alphabetised_stay_right Tau t v k = tau_right t k
  alphabetised_stay_right Tick t v k = absurd v
  alphabetised_stay_right (Ev e) t v k = event_right t (own_of s b a e v) k

alphabetised_of : (s : Script) (a b : EventSet) (p : Process) (ps : Steps) (q : Process) (qs : Steps) → StepsAre s p ps → StepsAre s q qs → (x : Action) (t : Process) →
    RuleStep s (AlphabetisedParallel p a b q) x t → Parallel (own_only s a b) (own_only s b a) (in_both s a b) (λ u v. AlphabetisedParallel u a b v) p ps q qs x t
alphabetised_of s a b p ps q qs l r x t (alphabetised_left {t = u} v h) = alphabetised_stay_left s a b p ps q qs l r x u v ((l x u).0 h)
alphabetised_of s a b p ps q qs l r x t (alphabetised_right {t = u} v h) = alphabetised_stay_right s a b p ps q qs l r x u v ((r x u).0 h)
alphabetised_of s a b p ps q qs l r x t (alphabetised_both {t = u} {u = w} {e = e} is also h k) = together u w (and_from (has_event s a e) (has_event s b e) is also) ((l _ _).0 h) ((r _ _).0 k)
alphabetised_of s a b p ps q qs l r x t (alphabetised_tick_left h) = tick_left _ ((l _ _).0 h)
alphabetised_of s a b p ps q qs l r x t (alphabetised_tick_right h) = tick_right _ ((r _ _).0 h)
alphabetised_of s a b p ps q qs l r x t alphabetised_tick = ended refl refl

alphabetised_exact : (s : Script) (a b : EventSet) (p : Process) (ps : Steps) (q : Process) (qs : Steps) → StepsAre s p ps → StepsAre s q qs →
    StepsAre s (AlphabetisedParallel p a b q) (parallel_steps (own_only s a b) (own_only s b a) (in_both s a b) (λ u v. AlphabetisedParallel u a b v) p ps q qs)
alphabetised_exact s a b p ps q qs l r x t = (
  λ h. parallel_of (own_only s a b) (own_only s b a) (in_both s a b) (λ u v. AlphabetisedParallel u a b v) p ps q qs x t (alphabetised_of s a b p ps q qs l r x t h),
  λ h. alphabetised_in s a b p ps q qs l r x t (parallel_in (own_only s a b) (own_only s b a) (in_both s a b) (λ u v. AlphabetisedParallel u a b v) p ps q qs x t h),
)

-- ---- sequence and interrupt

stay_of : (under : Process → Process) (last : Steps) (x : Action) (t : Process) → IsNotTick x → IsOneOf (stay always under last x t) x (under t)
stay_of under last Tau t v = inl (refl, refl)
stay_of under last Tick t v = absurd v
stay_of under last (Ev e) t v = inl (refl, refl)

sequential_from : (s : Script) (p q : Process) (y : Action) (u : Process) (x : Action) (t : Process) → RuleStep s p y u → IsOneOf (stay always (λ v. Sequential v q) ((Tau, settled s q) ∷ []) y u) x t →
    RuleStep s (Sequential p q) x t
sequential_from s p q Tau u x t h (inl e) = moved e.0 e.1 (sequential tt h)
sequential_from s p q Tick u x t h (inl e) = moved e.0 e.1 (sequential_tick h)
sequential_from s p q (Ev f) u x t h (inl e) = moved e.0 e.1 (sequential tt h)
sequential_from s p q Tau u x t h (inr e) = absurd e
sequential_from s p q Tick u x t h (inr e) = absurd e
sequential_from s p q (Ev f) u x t h (inr e) = absurd e

sequential_of : (s : Script) (p : Process) (ps : Steps) (q : Process) → StepsAre s p ps → (x : Action) (t : Process) → RuleStep s (Sequential p q) x t →
    IsOneOf (each_step (stay always (λ v. Sequential v q) ((Tau, settled s q) ∷ [])) ps) x t
sequential_of s p ps q l x t (sequential {t = u} v h) = each_of (stay always (λ w. Sequential w q) ((Tau, settled s q) ∷ [])) ps x u _ _ ((l x u).0 h) (stay_of (λ w. Sequential w q) ((Tau, settled s q) ∷ []) x u v)
sequential_of s p ps q l x t (sequential_tick {t = u} h) = each_of (stay always (λ w. Sequential w q) ((Tau, settled s q) ∷ [])) ps Tick u _ _ ((l Tick u).0 h) (inl (refl, refl))

sequential_exact : (s : Script) (p : Process) (ps : Steps) (q : Process) → StepsAre s p ps → StepsAre s (Sequential p q) (each_step (stay always (λ v. Sequential v q) ((Tau, settled s q) ∷ [])) ps)
sequential_exact s p ps q l x t = (
  sequential_of s p ps q l x t,
  λ h. let m = each_in (stay always (λ v. Sequential v q) ((Tau, settled s q) ∷ [])) ps x t h in sequential_from s p q m.0 m.1 x t ((l m.0 m.1).1 m.2) m.3,
)

interrupt_left_in : (s : Script) (p q : Process) (y : Action) (u : Process) (x : Action) (t : Process) → RuleStep s p y u → IsOneOf (stay always (λ v. Interrupt v q) ((Tick, Omega) ∷ []) y u) x t →
    RuleStep s (Interrupt p q) x t
interrupt_left_in s p q Tau u x t h (inl e) = moved e.0 e.1 (interrupt_left tt h)
interrupt_left_in s p q Tick u x t h (inl e) = moved e.0 e.1 (interrupt_tick h)
interrupt_left_in s p q (Ev f) u x t h (inl e) = moved e.0 e.1 (interrupt_left tt h)
interrupt_left_in s p q Tau u x t h (inr e) = absurd e
interrupt_left_in s p q Tick u x t h (inr e) = absurd e
interrupt_left_in s p q (Ev f) u x t h (inr e) = absurd e

interrupt_right_in : (s : Script) (p q : Process) (y : Action) (u : Process) (x : Action) (t : Process) → RuleStep s q y u →
    IsOneOf (leave (λ v. Interrupt p v) y u) x t → RuleStep s (Interrupt p q) x t
interrupt_right_in s p q Tau u x t h (inl e) = moved e.0 e.1 (interrupt_tau_right h)
interrupt_right_in s p q Tick u x t h (inl e) = moved e.0 e.1 (interrupt_right tt h)
interrupt_right_in s p q (Ev f) u x t h (inl e) = moved e.0 e.1 (interrupt_right tt h)
interrupt_right_in s p q Tau u x t h (inr e) = absurd e
interrupt_right_in s p q Tick u x t h (inr e) = absurd e
interrupt_right_in s p q (Ev f) u x t h (inr e) = absurd e

interrupt_of : (s : Script) (p : Process) (ps : Steps) (q : Process) (qs : Steps) → StepsAre s p ps → StepsAre s q qs → (x : Action) (t : Process) → RuleStep s (Interrupt p q) x t →
    IsOneOf (each_step (stay always (λ v. Interrupt v q) ((Tick, Omega) ∷ [])) ps ++ each_step (leave (λ v. Interrupt p v)) qs) x t
interrupt_of s p ps q qs l r x t (interrupt_left {t = u} v h) =
    append_left _ _ _ _ (each_of (stay always (λ w. Interrupt w q) ((Tick, Omega) ∷ [])) ps x u _ _ ((l x u).0 h) (stay_of (λ w. Interrupt w q) ((Tick, Omega) ∷ []) x u v))
interrupt_of s p ps q qs l r x t (interrupt_tick {t = u} h) = append_left _ _ _ _ (each_of (stay always (λ w. Interrupt w q) ((Tick, Omega) ∷ [])) ps Tick u _ _ ((l Tick u).0 h) (inl (refl, refl)))
interrupt_of s p ps q qs l r x t (interrupt_tau_right {t = u} h) =
    append_right (each_step (stay always (λ v. Interrupt v q) ((Tick, Omega) ∷ [])) ps) _ _ _ (each_of (leave (λ v. Interrupt p v)) qs Tau u _ _ ((r Tau u).0 h) (inl (refl, refl)))
interrupt_of s p ps q qs l r x t (interrupt_right v h) =
    append_right (each_step (stay always (λ v. Interrupt v q) ((Tick, Omega) ∷ [])) ps) _ _ _ (each_of (leave (λ v. Interrupt p v)) qs x t _ _ ((r x t).0 h) (leave_visible (λ v. Interrupt p v) x t v))

interrupt_exact : (s : Script) (p : Process) (ps : Steps) (q : Process) (qs : Steps) → StepsAre s p ps → StepsAre s q qs →
    StepsAre s (Interrupt p q) (each_step (stay always (λ v. Interrupt v q) ((Tick, Omega) ∷ [])) ps ++ each_step (leave (λ v. Interrupt p v)) qs)
interrupt_exact s p ps q qs l r x t = (
  interrupt_of s p ps q qs l r x t,
  λ h. ⊎_elim
      (λ k. let m = each_in (stay always (λ v. Interrupt v q) ((Tick, Omega) ∷ [])) ps x t k in interrupt_left_in s p q m.0 m.1 x t ((l m.0 m.1).1 m.2) m.3)
      (λ k. let m = each_in (leave (λ v. Interrupt p v)) qs x t k in interrupt_right_in s p q m.0 m.1 x t ((r m.0 m.1).1 m.2) m.3)
      (append_cases (each_step (stay always (λ v. Interrupt v q) ((Tick, Omega) ∷ [])) ps) (each_step (leave (λ v. Interrupt p v)) qs) x t h),
)

-- ---- sliding choice

sliding_left_in : (s : Script) (p q : Process) (y : Action) (u : Process) (x : Action) (t : Process) → RuleStep s p y u →
    IsOneOf (leave (λ v. SlidingChoice v q) y u) x t → RuleStep s (SlidingChoice p q) x t
sliding_left_in s p q Tau u x t h (inl e) = moved e.0 e.1 (sliding_tau h)
sliding_left_in s p q Tick u x t h (inl e) = moved e.0 e.1 (sliding_left tt h)
sliding_left_in s p q (Ev f) u x t h (inl e) = moved e.0 e.1 (sliding_left tt h)
sliding_left_in s p q Tau u x t h (inr e) = absurd e
sliding_left_in s p q Tick u x t h (inr e) = absurd e
sliding_left_in s p q (Ev f) u x t h (inr e) = absurd e

sliding_away_in : (s : Script) (p q : Process) (x : Action) (t : Process) → IsOneOf ((Tau, settled s q) ∷ []) x t → RuleStep s (SlidingChoice p q) x t
sliding_away_in s p q x t (inl e) = moved e.0 e.1 sliding_away
sliding_away_in s p q x t (inr e) = absurd e

sliding_of : (s : Script) (p : Process) (ps : Steps) (q : Process) → StepsAre s p ps → (x : Action) (t : Process) → RuleStep s (SlidingChoice p q) x t →
    IsOneOf (each_step (leave (λ v. SlidingChoice v q)) ps ++ (Tau, settled s q) ∷ []) x t
sliding_of s p ps q l x t (sliding_tau {t = u} h) = append_left _ _ _ _ (each_of (leave (λ v. SlidingChoice v q)) ps Tau u _ _ ((l Tau u).0 h) (inl (refl, refl)))
sliding_of s p ps q l x t (sliding_left v h) =
    append_left _ _ _ _ (each_of (leave (λ v. SlidingChoice v q)) ps x t _ _ ((l x t).0 h) (leave_visible (λ v. SlidingChoice v q) x t v))
sliding_of s p ps q l x t sliding_away = append_right (each_step (leave (λ v. SlidingChoice v q)) ps) _ _ _ (inl (refl, refl))

sliding_exact : (s : Script) (p : Process) (ps : Steps) (q : Process) → StepsAre s p ps →
    StepsAre s (SlidingChoice p q) (each_step (leave (λ v. SlidingChoice v q)) ps ++ (Tau, settled s q) ∷ [])
sliding_exact s p ps q l x t = (
  sliding_of s p ps q l x t,
  λ h. ⊎_elim
      (λ k. let m = each_in (leave (λ v. SlidingChoice v q)) ps x t k in sliding_left_in s p q m.0 m.1 x t ((l m.0 m.1).1 m.2) m.3)
      (λ k. sliding_away_in s p q x t k)
      (append_cases (each_step (leave (λ v. SlidingChoice v q)) ps) ((Tau, settled s q) ∷ []) x t h),
)

-- ---- hiding

hide_in : (s : Script) (p : Process) (a : EventSet) (f : Event) (u : Process) (x : Action) (t : Process) → RuleStep s p (Ev f) u → (b : Bool) → has_event s a f ≡ b →
    IsOneOf (cond b ((Tau, Hiding u a) ∷ []) ((Ev f, Hiding u a) ∷ [])) x t → RuleStep s (Hiding p a) x t
hide_in s p a f u x t h true is (inl e) = moved e.0 e.1 (hiding_hidden is h)
hide_in s p a f u x t h false is (inl e) = moved e.0 e.1 (hiding_event is h)
hide_in s p a f u x t h true is (inr e) = absurd e
hide_in s p a f u x t h false is (inr e) = absurd e

hiding_in : (s : Script) (p : Process) (a : EventSet) (y : Action) (u : Process) (x : Action) (t : Process) → RuleStep s p y u →
    IsOneOf (hide (has_event s a) (λ v. Hiding v a) y u) x t → RuleStep s (Hiding p a) x t
hiding_in s p a Tau u x t h (inl e) = moved e.0 e.1 (hiding_tau h)
hiding_in s p a Tau u x t h (inr e) = absurd e
hiding_in s p a Tick u x t h (inl e) = moved e.0 e.1 (hiding_tick h)
hiding_in s p a Tick u x t h (inr e) = absurd e
hiding_in s p a (Ev f) u x t h k = hide_in s p a f u x t h (has_event s a f) refl k

hiding_of : (s : Script) (p : Process) (ps : Steps) (a : EventSet) → StepsAre s p ps → (x : Action) (t : Process) → RuleStep s (Hiding p a) x t →
    IsOneOf (each_step (hide (has_event s a) (λ v. Hiding v a)) ps) x t
hiding_of s p ps a l x t (hiding_tau {t = u} h) = each_of (hide (has_event s a) (λ v. Hiding v a)) ps Tau u _ _ ((l Tau u).0 h) (inl (refl, refl))
hiding_of s p ps a l x t (hiding_hidden {t = u} {e = f} is h) =
    let P : Bool → Type 0 = λ b. IsOneOf (cond b ((Tau, Hiding u a) ∷ []) ((Ev f, Hiding u a) ∷ [])) Tau (Hiding u a) in
    each_of (hide (has_event s a) (λ v. Hiding v a)) ps (Ev f) u _ _ ((l (Ev f) u).0 h) (subst P (sym is) (inl (refl, refl)))
hiding_of s p ps a l x t (hiding_event {t = u} {e = f} is h) =
    let P : Bool → Type 0 = λ b. IsOneOf (cond b ((Tau, Hiding u a) ∷ []) ((Ev f, Hiding u a) ∷ [])) (Ev f) (Hiding u a) in
    each_of (hide (has_event s a) (λ v. Hiding v a)) ps (Ev f) u _ _ ((l (Ev f) u).0 h) (subst P (sym is) (inl (refl, refl)))
hiding_of s p ps a l x t (hiding_tick {t = u} h) = each_of (hide (has_event s a) (λ v. Hiding v a)) ps Tick u _ _ ((l Tick u).0 h) (inl (refl, refl))

hiding_exact : (s : Script) (p : Process) (ps : Steps) (a : EventSet) → StepsAre s p ps → StepsAre s (Hiding p a) (each_step (hide (has_event s a) (λ v. Hiding v a)) ps)
hiding_exact s p ps a l x t =
    (hiding_of s p ps a l x t, λ h. let m = each_in (hide (has_event s a) (λ v. Hiding v a)) ps x t h in hiding_in s p a m.0 m.1 x t ((l m.0 m.1).1 m.2) m.3)

-- ---- renaming

images_in : (u : Process) (fs : List Event) (x : Action) (t : Process) → IsOneOf (image_steps u fs) x t → (f : Event) × Contains fs f × (x ≡ Ev f) × (t ≡ u)
images_in u [] x t h = absurd h
images_in u (g ∷ fs) x t (inl e) = (g, contains_here g fs, e.0, e.1)
images_in u (g ∷ fs) x t (inr h) = let m = images_in u fs x t h in (m.0, contains_there g fs m.0 m.1, m.2, m.3)

images_of : (u : Process) (fs : List Event) (f : Event) → Contains fs f → IsOneOf (image_steps u fs) (Ev f) u
images_of u [] f has = absurd (let h = has.1 in omega arith)
images_of u (g ∷ fs) f has = ⊎_elim (λ e. inl (ap Ev (sym e), refl)) (λ k. inr (images_of u fs f k)) (contains_cases g fs f has)

renaming_in : (s : Script) (p : Process) (rs : List RenamingPair) (y : Action) (u : Process) (x : Action) (t : Process) → RuleStep s p y u →
    IsOneOf (rename (images s rs) (λ v. Renaming v rs) y u) x t →
    RuleStep s (Renaming p rs) x t
renaming_in s p rs Tau u x t h (inl e) = moved e.0 e.1 (renaming_tau h)
renaming_in s p rs Tau u x t h (inr e) = absurd e
renaming_in s p rs Tick u x t h (inl e) = moved e.0 e.1 (renaming_tick h)
renaming_in s p rs Tick u x t h (inr e) = absurd e
renaming_in s p rs (Ev f) u x t h k = let m = images_in (Renaming u rs) (images s rs f) x t k in moved m.2 m.3 (renaming_event m.1 h)

renaming_of : (s : Script) (p : Process) (ps : Steps) (rs : List RenamingPair) → StepsAre s p ps → (x : Action) (t : Process) → RuleStep s (Renaming p rs) x t →
    IsOneOf (each_step (rename (images s rs) (λ v. Renaming v rs)) ps) x t
renaming_of s p ps rs l x t (renaming_tau {t = u} h) = each_of (rename (images s rs) (λ v. Renaming v rs)) ps Tau u _ _ ((l Tau u).0 h) (inl (refl, refl))
renaming_of s p ps rs l x t (renaming_event {t = u} {e = e} {f = f} has h) =
    each_of (rename (images s rs) (λ v. Renaming v rs)) ps (Ev e) u _ _ ((l (Ev e) u).0 h) (images_of (Renaming u rs) (images s rs e) f has)
renaming_of s p ps rs l x t (renaming_tick {t = u} h) = each_of (rename (images s rs) (λ v. Renaming v rs)) ps Tick u _ _ ((l Tick u).0 h) (inl (refl, refl))

renaming_exact : (s : Script) (p : Process) (ps : Steps) (rs : List RenamingPair) → StepsAre s p ps → StepsAre s (Renaming p rs) (each_step (rename (images s rs) (λ v. Renaming v rs)) ps)
renaming_exact s p ps rs l x t =
    (renaming_of s p ps rs l x t, λ h. let m = each_in (rename (images s rs) (λ v. Renaming v rs)) ps x t h in renaming_in s p rs m.0 m.1 x t ((l m.0 m.1).1 m.2) m.3)

-- ---- prefix, call, guard and if

settled_in : (s : Script) (ss : Steps) (x : Action) (t : Process) → IsOneOf (settled_steps s ss) x t → (u : Process) × IsOneOf ss x u × (t ≡ settled s u)
settled_in s [] x t h = absurd h
settled_in s (z ∷ ss) x t (inl e) = (z.1, inl (e.0, refl), e.1)
settled_in s (z ∷ ss) x t (inr h) = let r = settled_in s ss x t h in (r.0, inr r.1, r.2)

settled_of : (s : Script) (ss : Steps) (x : Action) (u : Process) → IsOneOf ss x u → IsOneOf (settled_steps s ss) x (settled s u)
settled_of s [] x u h = absurd h
settled_of s (z ∷ ss) x u (inl e) = inl (e.0, ap (settled s) e.1)
settled_of s (z ∷ ss) x u (inr h) = inr (settled_of s ss x u h)

communications_in : (c : ℕ) (p : Process) (ms : List Communication) (x : Action) (t : Process) → IsOneOf (communication_steps c p ms) x t →
    (m : Communication) × Contains ms m × (x ≡ Ev (record { channel = c; fields = m.values })) × (t ≡ put m.bindings p)
communications_in c p [] x t h = absurd h
communications_in c p (n ∷ ms) x t (inl e) = (n, contains_here n ms, e.0, e.1)
communications_in c p (n ∷ ms) x t (inr h) = let m = communications_in c p ms x t h in (m.0, contains_there n ms m.0 m.1, m.2, m.3)

communications_of : (c : ℕ) (p : Process) (ms : List Communication) (m : Communication) → Contains ms m →
    IsOneOf (communication_steps c p ms) (Ev (record { channel = c; fields = m.values })) (put m.bindings p)
communications_of c p [] m has = absurd (let h = has.1 in omega arith)
communications_of c p (n ∷ ms) m has =
    ⊎_elim (λ e. inl (ap (λ z. Ev (record { channel = c; fields = z.values })) (sym e), ap (λ z. put z.bindings p) (sym e))) (λ k. inr (communications_of c p ms m k)) (contains_cases n ms m has)

prefix_in : (s : Script) (c : ℕ) (fs : List Field) (p : Process) (r : Result (List Communication) Cause) → prefix_communications s c fs ≡ r → (x : Action) (t : Process) →
    IsOneOf (settled_steps s (prefix_steps c p r)) x t →
    RuleStep s (Prefix c fs p) x t
prefix_in s c fs p (Ok ms) is x t h =
    let k = settled_in s (communication_steps c p ms) x t h in
    let m = communications_in c p ms x k.0 k.1 in moved m.2 (k.2 ∙ ap (settled s) m.3) (prefix ms m.0 is m.1)
prefix_in s c fs p (Err e) is x t h = absurd h

prefix_of : (s : Script) (c : ℕ) (fs : List Field) (p : Process) (x : Action) (t : Process) → RuleStep s (Prefix c fs p) x t → IsOneOf (settled_steps s (prefix_steps c p (prefix_communications s c fs))) x t
prefix_of s c fs p x t (prefix ms m is has) =
    let P : Result (List Communication) Cause → Type 0 = λ r. IsOneOf (settled_steps s (prefix_steps c p r)) (Ev (record { channel = c; fields = m.values })) (settled s (put m.bindings p)) in
    subst P (sym is) (settled_of s (communication_steps c p ms) (Ev (record { channel = c; fields = m.values })) (put m.bindings p) (communications_of c p ms m has))

call_in : (s : Script) (n : ℕ) (es : Expressions) (r : Result Process Cause) → called s n es ≡ r → (x : Action) (t : Process) → IsOneOf (settled_steps s (call_steps r)) x t → RuleStep s (Call n es) x t
call_in s n es (Ok u) is x t (inl e) = moved e.0 e.1 (call is)
call_in s n es (Ok u) is x t (inr e) = absurd e
call_in s n es (Err c) is x t h = absurd h

call_of : (s : Script) (n : ℕ) (es : Expressions) (x : Action) (t : Process) → RuleStep s (Call n es) x t → IsOneOf (settled_steps s (call_steps (called s n es))) x t
call_of s n es x t (call {t = u} is) = let P : Result Process Cause → Type 0 = λ r. IsOneOf (settled_steps s (call_steps r)) Tau (settled s u) in subst P (sym is) (inl (refl, refl))

guard_in : (s : Script) (e : Expression) (p : Process) (ps : Steps) → StepsAre s p ps → (r : Result Bool Cause) → condition s.types e ≡ r → (x : Action) (t : Process) →
    IsOneOf (branch_steps r ps []) x t →
    RuleStep s (Guard e p) x t
guard_in s e p ps l (Ok true) is x t h = guard is ((l x t).1 h)
guard_in s e p ps l (Ok false) is x t h = absurd h
guard_in s e p ps l (Err c) is x t h = absurd h

guard_of : (s : Script) (e : Expression) (p : Process) (ps : Steps) → StepsAre s p ps → (x : Action) (t : Process) → RuleStep s (Guard e p) x t → IsOneOf (branch_steps (condition s.types e) ps []) x t
guard_of s e p ps l x t (guard is h) = let P : Result Bool Cause → Type 0 = λ r. IsOneOf (branch_steps r ps []) x t in subst P (sym is) ((l x t).0 h)

if_in : (s : Script) (e : Expression) (p : Process) (ps : Steps) (q : Process) (qs : Steps) → StepsAre s p ps → StepsAre s q qs → (r : Result Bool Cause) →
    condition s.types e ≡ r → (x : Action) (t : Process) →
    IsOneOf (branch_steps r ps qs) x t → RuleStep s (If e p q) x t
if_in s e p ps q qs l m (Ok true) is x t h = if_true is ((l x t).1 h)
if_in s e p ps q qs l m (Ok false) is x t h = if_false is ((m x t).1 h)
if_in s e p ps q qs l m (Err c) is x t h = absurd h

if_of : (s : Script) (e : Expression) (p : Process) (ps : Steps) (q : Process) (qs : Steps) → StepsAre s p ps → StepsAre s q qs → (x : Action) (t : Process) → RuleStep s (If e p q) x t →
    IsOneOf (branch_steps (condition s.types e) ps qs) x t
if_of s e p ps q qs l m x t (if_true is h) = let P : Result Bool Cause → Type 0 = λ r. IsOneOf (branch_steps r ps qs) x t in subst P (sym is) ((l x t).0 h)
if_of s e p ps q qs l m x t (if_false is h) = let P : Result Bool Cause → Type 0 = λ r. IsOneOf (branch_steps r ps qs) x t in subst P (sym is) ((m x t).0 h)

-- ---- chains

module _ (s : Script) (op : Process → Process → Process) (of_two : Process → Steps → Process → Steps → Steps)
    (two : (p : Process) (ps : Steps) (q : Process) (qs : Steps) → StepsAre s p ps → StepsAre s q qs → StepsAre s (op p q) (of_two p ps q qs))
    (steps : Process → Steps) (x : ℕ) (body : Process) (each : (v : Value) → StepsAre s (put ((x, v) ∷ []) body) (steps (put ((x, v) ∷ []) body))) where
  grouped_exact : (vs : List Value) (p : Process) (ps : Steps) → StepsAre s p ps →
      StepsAre s (left_grouped op p (instances x body vs)) (grouped_steps op of_two p ps (with_steps steps (instances x body vs)))
  grouped_exact [] p ps l = l
  grouped_exact (v ∷ vs) p ps l =
      grouped_exact vs (op p (put ((x, v) ∷ []) body)) (of_two p ps (put ((x, v) ∷ []) body) (steps (put ((x, v) ∷ []) body)))
      (two p ps (put ((x, v) ∷ []) body) (steps (put ((x, v) ∷ []) body)) l (each v))

  chain_exact : (empty : Process) (empty_steps : Steps) → StepsAre s empty empty_steps → (vs : List Value) →
      StepsAre s (chain op empty (instances x body vs)) (chain_steps op of_two empty_steps (with_steps steps (instances x body vs)))
  chain_exact empty empty_steps l [] = l
  chain_exact empty empty_steps l (v ∷ vs) = grouped_exact vs (put ((x, v) ∷ []) body) (steps (put ((x, v) ∷ []) body)) (each v)

stop_exact : (s : Script) → StepsAre s Stop []
stop_exact s x t = (λ h. elim h [ ], λ h. absurd h)

omega_exact : (s : Script) → StepsAre s Omega []
omega_exact s x t = (λ h. elim h [ ], λ h. absurd h)

skip_of : (s : Script) (x : Action) (t : Process) → RuleStep s Skip x t → IsOneOf ((Tick, Omega) ∷ []) x t
skip_of s x t skip = inl (refl, refl)

skip_in : (s : Script) (x : Action) (t : Process) → IsOneOf ((Tick, Omega) ∷ []) x t → RuleStep s Skip x t
skip_in s x t (inl e) = moved e.0 e.1 skip
skip_in s x t (inr e) = absurd e

skip_exact : (s : Script) → StepsAre s Skip ((Tick, Omega) ∷ [])
skip_exact s x t = (skip_of s x t, skip_in s x t)

module _ (s : Script) (n : ℕ) (e : Expression) (p : Process) (f : List Value → Steps) where
  external_chain_in : ((vs : List Value) → StepsAre s (chain ExternalChoice Stop (instances n p vs)) (f vs)) → (r : Result (List Value) Cause) → elements s.types e ≡ r → (x : Action) (t : Process) →
      IsOneOf (over r f) x t → RuleStep s (ReplicatedExternalChoice n e p) x t
  external_chain_in l (Ok vs) is x t h = replicated_external vs is ((l vs x t).1 h)
  external_chain_in l (Err c) is x t h = absurd h

  external_chain_of : ((vs : List Value) → StepsAre s (chain ExternalChoice Stop (instances n p vs)) (f vs)) → (x : Action) (t : Process) → RuleStep s (ReplicatedExternalChoice n e p) x t →
      IsOneOf (over (elements s.types e) f) x t
  external_chain_of l x t (replicated_external vs is h) = let P : Result (List Value) Cause → Type 0 = λ r. IsOneOf (over r f) x t in subst P (sym is) ((l vs x t).0 h)

  interleaving_chain_in : ((vs : List Value) → StepsAre s (chain Interleaving Skip (instances n p vs)) (f vs)) → (r : Result (List Value) Cause) → elements s.types e ≡ r → (x : Action) (t : Process) →
      IsOneOf (over r f) x t → RuleStep s (ReplicatedInterleaving n e p) x t
  interleaving_chain_in l (Ok vs) is x t h = replicated_interleaving vs is ((l vs x t).1 h)
  interleaving_chain_in l (Err c) is x t h = absurd h

  interleaving_chain_of : ((vs : List Value) → StepsAre s (chain Interleaving Skip (instances n p vs)) (f vs)) → (x : Action) (t : Process) → RuleStep s (ReplicatedInterleaving n e p) x t →
      IsOneOf (over (elements s.types e) f) x t
  interleaving_chain_of l x t (replicated_interleaving vs is h) = let P : Result (List Value) Cause → Type 0 = λ r. IsOneOf (over r f) x t in subst P (sym is) ((l vs x t).0 h)

  internal_chain_in : ((vs : List Value) → StepsAre s (chain InternalChoice Stop (instances n p vs)) (f vs)) → (r : Result (List Value) Cause) → elements s.types e ≡ r → (x : Action) (t : Process) →
      IsOneOf (over r f) x t → RuleStep s (ReplicatedInternalChoice n e p) x t
  internal_chain_in l (Ok []) is x t h = absurd (stop_none x t ((l [] x t).1 h))
    where
      stop_none : (x : Action) (t : Process) → RuleStep s Stop x t → ⊥
      stop_none x t h = elim h [ ]
  internal_chain_in l (Ok (v ∷ vs)) is x t h = replicated_internal v vs is ((l (v ∷ vs) x t).1 h)
  internal_chain_in l (Err c) is x t h = absurd h

  internal_chain_of : ((vs : List Value) → StepsAre s (chain InternalChoice Stop (instances n p vs)) (f vs)) → (x : Action) (t : Process) → RuleStep s (ReplicatedInternalChoice n e p) x t →
      IsOneOf (over (elements s.types e) f) x t
  internal_chain_of l x t (replicated_internal v vs is h) = let P : Result (List Value) Cause → Type 0 = λ r. IsOneOf (over r f) x t in subst P (sym is) ((l (v ∷ vs) x t).0 h)

-- ---- all forms

pub exact_within : (n : ℕ) (s : Script) (p : Process) → height p ≤ n → StepsAre s p (steps_within n s p)
exact_within zero s p h = absurd (omega (arith, height-pos p))
exact_within (suc n) s Stop h = stop_exact s
exact_within (suc n) s Skip h = skip_exact s
exact_within (suc n) s Omega h = omega_exact s
exact_within (suc n) s (Call c es) h = λ x t. (call_of s c es x t, call_in s c es (called s c es) refl x t)
exact_within (suc n) s (Prefix c fs p) h = λ x t. (prefix_of s c fs p x t, prefix_in s c fs p (prefix_communications s c fs) refl x t)
exact_within (suc n) s (Guard e p) h =
    let l = exact_within n s p (omega arith) in λ x t. (guard_of s e p (steps_within n s p) l x t, guard_in s e p (steps_within n s p) l (condition s.types e) refl x t)
exact_within (suc n) s (If e p q) h =
    let l = exact_within n s p (omega arith) in let r = exact_within n s q (omega arith) in
    λ x t. (if_of s e p (steps_within n s p) q (steps_within n s q) l r x t, if_in s e p (steps_within n s p) q (steps_within n s q) l r (condition s.types e) refl x t)
exact_within (suc n) s (ExternalChoice p q) h = external_exact s p (steps_within n s p) q (steps_within n s q) (exact_within n s p (omega arith)) (exact_within n s q (omega arith))
exact_within (suc n) s (InternalChoice p q) h = λ x t. (internal_of s p q x t, internal_in s p q x t)
exact_within (suc n) s (Sequential p q) h = sequential_exact s p (steps_within n s p) q (exact_within n s p (omega arith))
exact_within (suc n) s (Interleaving p q) h = interleaving_exact s p (steps_within n s p) q (steps_within n s q) (exact_within n s p (omega arith)) (exact_within n s q (omega arith))
exact_within (suc n) s (Interrupt p q) h = interrupt_exact s p (steps_within n s p) q (steps_within n s q) (exact_within n s p (omega arith)) (exact_within n s q (omega arith))
exact_within (suc n) s (GeneralisedParallel p a q) h = generalised_exact s a p (steps_within n s p) q (steps_within n s q) (exact_within n s p (omega arith)) (exact_within n s q (omega arith))
exact_within (suc n) s (AlphabetisedParallel p a b q) h = alphabetised_exact s a b p (steps_within n s p) q (steps_within n s q) (exact_within n s p (omega arith)) (exact_within n s q (omega arith))
exact_within (suc n) s (Hiding p a) h = hiding_exact s p (steps_within n s p) a (exact_within n s p (omega arith))
exact_within (suc n) s (Renaming p rs) h = renaming_exact s p (steps_within n s p) rs (exact_within n s p (omega arith))
exact_within (suc n) s (ReplicatedExternalChoice x e p) h =
    let f : List Value → Steps = λ vs. chain_steps ExternalChoice external_steps [] (with_steps (steps_within n s) (instances x p vs)) in
    let each : (v : Value) → StepsAre s (put ((x, v) ∷ []) p) (steps_within n s (put ((x, v) ∷ []) p)) = λ v. exact_within n s (put ((x, v) ∷ []) p) (omega (arith, height-put ((x, v) ∷ []) p)) in
    let l : (vs : List Value) → StepsAre s (chain ExternalChoice Stop (instances x p vs)) (f vs) = chain_exact s ExternalChoice external_steps (external_exact s)
    (steps_within n s) x p each Stop [] (stop_exact s) in
    λ y t. (external_chain_of s x e p f l y t, external_chain_in s x e p f l (elements s.types e) refl y t)
exact_within (suc n) s (ReplicatedInternalChoice x e p) h =
    let f : List Value → Steps = λ vs. chain_steps InternalChoice (internal_steps s) [] (with_steps (steps_within n s) (instances x p vs)) in
    let each : (v : Value) → StepsAre s (put ((x, v) ∷ []) p) (steps_within n s (put ((x, v) ∷ []) p)) = λ v. exact_within n s (put ((x, v) ∷ []) p) (omega (arith, height-put ((x, v) ∷ []) p)) in
    let l : (vs : List Value) → StepsAre s (chain InternalChoice Stop (instances x p vs)) (f vs) = chain_exact s InternalChoice (internal_steps s) (internal_exact s)
    (steps_within n s) x p each Stop [] (stop_exact s) in
    λ y t. (internal_chain_of s x e p f l y t, internal_chain_in s x e p f l (elements s.types e) refl y t)
exact_within (suc n) s (ReplicatedInterleaving x e p) h =
    let f : List Value → Steps = λ vs. chain_steps Interleaving interleaving_steps ((Tick, Omega) ∷ []) (with_steps (steps_within n s) (instances x p vs)) in
    let each : (v : Value) → StepsAre s (put ((x, v) ∷ []) p) (steps_within n s (put ((x, v) ∷ []) p)) = λ v. exact_within n s (put ((x, v) ∷ []) p) (omega (arith, height-put ((x, v) ∷ []) p)) in
    let l : (vs : List Value) → StepsAre s (chain Interleaving Skip (instances x p vs)) (f vs) = chain_exact s Interleaving interleaving_steps (interleaving_exact s)
    (steps_within n s) x p each Skip ((Tick, Omega) ∷ []) (skip_exact s) in
    λ y t. (interleaving_chain_of s x e p f l y t, interleaving_chain_in s x e p f l (elements s.types e) refl y t)
exact_within (suc n) s (SlidingChoice p q) h = sliding_exact s p (steps_within n s p) q (exact_within n s p (omega arith))

-- the computed steps of a term are exactly its rule steps
pub exact : (s : Script) (p : Process) → StepsAre s p (rule_steps s p)
exact s p = exact_within (height p) s p (omega arith)
