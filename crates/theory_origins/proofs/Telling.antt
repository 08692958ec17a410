-- What is told of a term's step by what is told of its parts' steps.
use Rattle.std.proofs.Common.{◌≡◌, ℕ, ◌≤◌, nat_le, Bool, true, false, not, List, refl, sym, ◌∙◌, ap, subst, arith, Option, Some, None, Result, Ok, Err, IsTrue}
use Rattle.std.specs.Option.{option_or}
use Rattle.theory_syntax.specs.Value.{Event, Action, Tau, Tick, Ev}
use Rattle.theory_syntax.specs.Expression.{Expression, Expressions}
use Rattle.theory_syntax.specs.Process.{Field, Process, Skip, Omega, Call, Prefix, Guard, If, ExternalChoice, InternalChoice, Sequential, Interrupt, SlidingChoice, Script}
use Rattle.theory_semantics.specs.Meaning.Evaluation.{Cause}
use Rattle.theory_semantics.specs.Meaning.Events.{condition}
use Rattle.theory_semantics.specs.Meaning.Faults.{cause_in, in_branch}
use Rattle.theory_semantics.specs.Meaning.Limits.{depth, fits, max_depth, max_size, size}
use Rattle.theory_semantics.specs.Meaning.Unfolding.{settled}
use Rattle.theory_semantics.specs.Meaning.Transitions.{IsNotTick, IsVisible, RuleStep, skip, prefix, call, guard, if_true, if_false, external_tau_left, external_tau_right, external_left, external_right, internal_left, internal_right, sequential, sequential_tick, interrupt_left, interrupt_tick, interrupt_tau_right, interrupt_right, sliding_tau, sliding_left, sliding_away}
use Rattle.theory_semantics.proofs.Causes.{external_cause, if_cause, interrupt_cause, sequential_cause, sliding_cause}
use Rattle.theory_syntax.proofs.Truths.{and_first, and_second}
use Rattle.theory_origins.specs.Origin.{Left, Right, OnBranch, UnderGuard, SideEnds, Origin, Does, Ends, Unfolds, Chooses, Slides, Below, ComesFrom}
use Rattle.theory_origins.specs.Telling.{Tells, TellsUnder}
use Rattle.theory_origins.proofs.Ending.{ends_by_tick}

-- ---- parts

pub none_first : (c d : Option Cause) → option_or c d ≡ None → c ≡ None
none_first None d h = refl
none_first (Some c) d h = absurd (cc h)

pub none_second : (c d : Option Cause) → option_or c d ≡ None → d ≡ None
none_second None d h = h
none_second (Some c) d h = absurd (cc h)

less_within : (m n limit : ℕ) → m ≤ n → nat_le n limit ≡ true → nat_le m limit ≡ true
less_within m n limit grows within = Prim.grind (arith, grows, within)

-- what is no larger and no deeper is within the limits too
pub within_by : (part whole : Process) → size part ≤ size whole → depth part ≤ depth whole → IsTrue (fits whole) → IsTrue (fits part)
within_by part whole larger deeper h =
    rw (
      less_within (size part) (size whole) max_size larger (and_first (nat_le (size whole) max_size) (nat_le (depth whole) max_depth) h),
      less_within (depth part) (depth whole) max_depth deeper (and_second (nat_le (size whole) max_size) (nat_le (depth whole) max_depth) h),
    ) refl

-- ---- origins along equations

pub to_target : {s : Script} {p t u : Process} {x : Action} {o : Origin} → t ≡ u → ComesFrom s p x u o → ComesFrom s p x t o
to_target {s} {p} {t} {u} {x} {o} e c = let P : Process → Type 0 = λ w. ComesFrom s p x w o in subst P (sym e) c

-- ---- operators of two processes

module _ (s : Script) (p q : Process) where
  external_clear : cause_in s (ExternalChoice p q) ≡ None → (cause_in s p ≡ None) × (cause_in s q ≡ None)
  external_clear clear =
      (none_first (cause_in s p) (cause_in s q) (sym (external_cause s p q) ∙ clear), none_second (cause_in s p) (cause_in s q) (sym (external_cause s p q) ∙ clear))

  pub external_no_tau : (t : Process) → TellsUnder s (λ u. ExternalChoice u q) p Tau t None → TellsUnder s (λ v. ExternalChoice p v) q Tau t None → Tells s (ExternalChoice p q) Tau t None
  external_no_tau t h k clear within (external_tau_left {t = u} step) = h (external_clear clear).0 u refl (within_by u (ExternalChoice u q) (omega arith) (omega arith) within) step
  external_no_tau t h k clear within (external_tau_right {t = v} step) = k (external_clear clear).1 v refl (within_by v (ExternalChoice p v) (omega arith) (omega arith) within) step
  external_no_tau t h k clear within (external_left visible step) = absurd visible
  external_no_tau t h k clear within (external_right visible step) = absurd visible

  pub external_tau_left_comes : (t : Process) (o : Origin) → TellsUnder s (λ u. ExternalChoice u q) p Tau t (Some o) → ComesFrom s (ExternalChoice p q) Tau t (Below (OnBranch Left) o)
  external_tau_left_comes t o h = to_target h.1 (external_tau_left h.2.0, ap (Below (OnBranch Left)) h.2.1)

  pub external_tau_right_comes : (t : Process) (o : Origin) → TellsUnder s (λ v. ExternalChoice p v) q Tau t (Some o) → ComesFrom s (ExternalChoice p q) Tau t (Below (OnBranch Right) o)
  external_tau_right_comes t o h = to_target h.1 (external_tau_right h.2.0, ap (Below (OnBranch Right)) h.2.1)

  pub external_none_visible : (x : Action) (t : Process) → IsVisible x → Tells s p x t None → Tells s q x t None → Tells s (ExternalChoice p q) x t None
  external_none_visible x t seen h k clear within (external_tau_left step) = absurd seen
  external_none_visible x t seen h k clear within (external_tau_right step) = absurd seen
  external_none_visible x t seen h k clear within (external_left visible step) = h (external_clear clear).0 within step
  external_none_visible x t seen h k clear within (external_right visible step) = k (external_clear clear).1 within step

  pub external_left_comes : (x : Action) (t : Process) (o : Origin) → IsVisible x → ComesFrom s p x t o → ComesFrom s (ExternalChoice p q) x t (Below (OnBranch Left) o)
  external_left_comes x t o seen h = (external_left seen h.0, ap (Below (OnBranch Left)) h.1)

  pub external_right_comes : (x : Action) (t : Process) (o : Origin) → IsVisible x → ComesFrom s q x t o → ComesFrom s (ExternalChoice p q) x t (Below (OnBranch Right) o)
  external_right_comes x t o seen h = (external_right seen h.0, ap (Below (OnBranch Right)) h.1)

  pub no_choice_but_tau : (x : Action) (t : Process) → RuleStep s (InternalChoice p q) x t → x ≡ Tau
  no_choice_but_tau x t internal_left = refl
  no_choice_but_tau x t internal_right = refl

  pub chosen_left : (t : Process) → t ≡ settled s p → ComesFrom s (InternalChoice p q) Tau t (Chooses Left)
  chosen_left t is = to_target is (internal_left, refl)

  pub chosen_right : (t : Process) → t ≡ settled s q → ComesFrom s (InternalChoice p q) Tau t (Chooses Right)
  chosen_right t is = to_target is (internal_right, refl)

  pub chosen_side : (t : Process) → ¬ (t ≡ settled s p) → ¬ (t ≡ settled s q) → ¬ RuleStep s (InternalChoice p q) Tau t
  chosen_side t not_left not_right internal_left = not_left refl
  chosen_side t not_left not_right internal_right = not_right refl

  -- a process that has ended is within the limits
  ended_within : (u : Process) → RuleStep s p Tick u → IsTrue (fits u)
  ended_within u step = let P : Process → Type 0 = λ w. IsTrue (fits w) in subst P (sym (ends_by_tick s p u step)) refl

  pub sequential_none : (x : Action) (t : Process) → TellsUnder s (λ u. Sequential u q) p x t None → TellsUnder s (λ u. settled s q) p Tick t None → Tells s (Sequential p q) x t None
  sequential_none x t h k clear within (sequential {t = u} no_tick step) =
      h (sym (sequential_cause s p q) ∙ clear) u refl (within_by u (Sequential u q) (omega arith) (omega arith) within) step
  sequential_none x t h k clear within (sequential_tick {t = u} step) = k (sym (sequential_cause s p q) ∙ clear) u refl (ended_within u step) step

  pub sequential_comes : (x : Action) (t : Process) (o : Origin) → IsNotTick x → TellsUnder s (λ u. Sequential u q) p x t (Some o) → ComesFrom s (Sequential p q) x t (Below (OnBranch Left) o)
  sequential_comes x t o no_tick h = to_target h.1 (sequential no_tick h.2.0, ap (Below (OnBranch Left)) h.2.1)

  pub sequential_ends : (t : Process) (o : Origin) → t ≡ settled s q → ComesFrom s p Tick Omega o → ComesFrom s (Sequential p q) Tau t (Below (SideEnds Left) o)
  sequential_ends t o is h = to_target is (sequential_tick h.0, ap (Below (SideEnds Left)) h.1)

  pub sequential_no_event : (e : Event) (t : Process) → TellsUnder s (λ u. Sequential u q) p (Ev e) t None → Tells s (Sequential p q) (Ev e) t None
  sequential_no_event e t h clear within (sequential {t = u} no_tick step) =
      h (sym (sequential_cause s p q) ∙ clear) u refl (within_by u (Sequential u q) (omega arith) (omega arith) within) step

  pub sequential_no_tick : (t : Process) → ¬ RuleStep s (Sequential p q) Tick t
  sequential_no_tick t (sequential no_tick step) = absurd no_tick

  interrupt_clear : cause_in s (Interrupt p q) ≡ None → (cause_in s p ≡ None) × (cause_in s q ≡ None)
  interrupt_clear clear =
      (none_first (cause_in s p) (cause_in s q) (sym (interrupt_cause s p q) ∙ clear), none_second (cause_in s p) (cause_in s q) (sym (interrupt_cause s p q) ∙ clear))

  pub interrupt_no_tau : (t : Process) → TellsUnder s (λ u. Interrupt u q) p Tau t None → TellsUnder s (λ v. Interrupt p v) q Tau t None → Tells s (Interrupt p q) Tau t None
  interrupt_no_tau t h k clear within (interrupt_left {t = u} no_tick step) = h (interrupt_clear clear).0 u refl (within_by u (Interrupt u q) (omega arith) (omega arith) within) step
  interrupt_no_tau t h k clear within (interrupt_tau_right {t = v} step) = k (interrupt_clear clear).1 v refl (within_by v (Interrupt p v) (omega arith) (omega arith) within) step
  interrupt_no_tau t h k clear within (interrupt_right visible step) = absurd visible

  pub interrupt_left_comes : (x : Action) (t : Process) (o : Origin) → IsNotTick x → TellsUnder s (λ u. Interrupt u q) p x t (Some o) → ComesFrom s (Interrupt p q) x t (Below (OnBranch Left) o)
  interrupt_left_comes x t o no_tick h = to_target h.1 (interrupt_left no_tick h.2.0, ap (Below (OnBranch Left)) h.2.1)

  pub interrupt_tau_right_comes : (t : Process) (o : Origin) → TellsUnder s (λ v. Interrupt p v) q Tau t (Some o) → ComesFrom s (Interrupt p q) Tau t (Below (OnBranch Right) o)
  interrupt_tau_right_comes t o h = to_target h.1 (interrupt_tau_right h.2.0, ap (Below (OnBranch Right)) h.2.1)

  pub interrupt_right_comes : (x : Action) (t : Process) (o : Origin) → IsVisible x → ComesFrom s q x t o → ComesFrom s (Interrupt p q) x t (Below (OnBranch Right) o)
  interrupt_right_comes x t o seen h = (interrupt_right seen h.0, ap (Below (OnBranch Right)) h.1)

  pub interrupt_tick_comes : (t : Process) (o : Origin) → ComesFrom s p Tick t o → ComesFrom s (Interrupt p q) Tick t (Below (OnBranch Left) o)
  interrupt_tick_comes t o h = to_target (ends_by_tick s p t h.0) (interrupt_tick h.0, ap (Below (OnBranch Left)) h.1)

  pub interrupt_no_event : (e : Event) (t : Process) → TellsUnder s (λ u. Interrupt u q) p (Ev e) t None → Tells s q (Ev e) t None → Tells s (Interrupt p q) (Ev e) t None
  interrupt_no_event e t h k clear within (interrupt_left {t = u} no_tick step) = h (interrupt_clear clear).0 u refl (within_by u (Interrupt u q) (omega arith) (omega arith) within) step
  interrupt_no_event e t h k clear within (interrupt_right visible step) = k (interrupt_clear clear).1 within step

  pub interrupt_none_ends : (t : Process) → Tells s p Tick t None → Tells s q Tick t None → Tells s (Interrupt p q) Tick t None
  interrupt_none_ends t h k clear within (interrupt_left no_tick step) = absurd no_tick
  interrupt_none_ends t h k clear within (interrupt_tick {t = u} step) = h (interrupt_clear clear).0 within (let P : Process → Type 0 = λ w. RuleStep s p Tick w in subst P (ends_by_tick s p u step) step)
  interrupt_none_ends t h k clear within (interrupt_right visible step) = k (interrupt_clear clear).1 within step

  sliding_clear : cause_in s (SlidingChoice p q) ≡ None → cause_in s p ≡ None
  sliding_clear clear = none_first (cause_in s p) (cause_in s q) (sym (sliding_cause s p q) ∙ clear)

  pub sliding_no_tau : (t : Process) → TellsUnder s (λ u. SlidingChoice u q) p Tau t None → ¬ (t ≡ settled s q) → Tells s (SlidingChoice p q) Tau t None
  sliding_no_tau t h other clear within (sliding_tau {t = u} step) = h (sliding_clear clear) u refl (within_by u (SlidingChoice u q) (omega arith) (omega arith) within) step
  sliding_no_tau t h other clear within (sliding_left visible step) = absurd visible
  sliding_no_tau t h other clear within sliding_away = other refl

  pub sliding_tau_comes : (t : Process) (o : Origin) → TellsUnder s (λ u. SlidingChoice u q) p Tau t (Some o) → ComesFrom s (SlidingChoice p q) Tau t (Below (OnBranch Left) o)
  sliding_tau_comes t o h = to_target h.1 (sliding_tau h.2.0, ap (Below (OnBranch Left)) h.2.1)

  pub slides : (t : Process) → t ≡ settled s q → ComesFrom s (SlidingChoice p q) Tau t Slides
  slides t is = to_target is (sliding_away, refl)

  pub sliding_none_visible : (x : Action) (t : Process) → IsVisible x → Tells s p x t None → Tells s (SlidingChoice p q) x t None
  sliding_none_visible x t seen h clear within (sliding_tau step) = absurd seen
  sliding_none_visible x t seen h clear within (sliding_left visible step) = h (sliding_clear clear) within step
  sliding_none_visible x t seen h clear within sliding_away = absurd seen

  pub sliding_left_comes : (x : Action) (t : Process) (o : Origin) → IsVisible x → ComesFrom s p x t o → ComesFrom s (SlidingChoice p q) x t (Below (OnBranch Left) o)
  sliding_left_comes x t o seen h = (sliding_left seen h.0, ap (Below (OnBranch Left)) h.1)

-- ---- leaves

module _ (s : Script) where
  pub skip_ends : (x : Action) (t : Process) → RuleStep s Skip x t → (x ≡ Tick) × (t ≡ Omega)
  skip_ends x t skip = (refl, refl)

  pub skip_comes : (x : Action) (t : Process) → x ≡ Tick → t ≡ Omega → ComesFrom s Skip x t Ends
  skip_comes x t is_tick is_omega =
      let P : Action → Type 0 = λ y. ComesFrom s Skip y Omega Ends in to_target is_omega (subst P (sym is_tick) (skip, refl))

  pub call_unfolds : (n : ℕ) (es : Expressions) (x : Action) (t : Process) → RuleStep s (Call n es) x t → ComesFrom s (Call n es) x t (Unfolds n)
  call_unfolds n es x t (call is) = (call is, refl)

  pub prefix_does : (c : ℕ) (fs : List Field) (p : Process) (e : Event) (t : Process) → RuleStep s (Prefix c fs p) (Ev e) t → ComesFrom s (Prefix c fs p) (Ev e) t (Does e)
  prefix_does c fs p e t (prefix all m is has) = (prefix all m is has, refl)

  pub prefix_event : (c : ℕ) (fs : List Field) (p : Process) (x : Action) (t : Process) → RuleStep s (Prefix c fs p) x t → (e : Event) × (x ≡ Ev e)
  prefix_event c fs p x t (prefix all m is has) = (record { channel = c; fields = m.values }, refl)

-- ---- conditions

module _ (s : Script) (e : Expression) (p : Process) (x : Action) (t : Process) where
  pub guard_none : condition s.types e ≡ Ok true → Tells s p x t None → Tells s (Guard e p) x t None
  guard_none is h clear within (guard holds step) = h (ap (λ r. in_branch r (cause_in s p) None) (sym is) ∙ clear) within step

  pub guard_comes : (o : Origin) → condition s.types e ≡ Ok true → ComesFrom s p x t o → ComesFrom s (Guard e p) x t (Below UnderGuard o)
  guard_comes o is h = (guard is h.0, ap (Below UnderGuard) h.1)

  pub guard_shut : ¬ (condition s.types e ≡ Ok true) → ¬ RuleStep s (Guard e p) x t
  guard_shut not (guard holds step) = not holds

module _ (s : Script) (e : Expression) (p q : Process) (x : Action) (t : Process) where
  true_is_false : (r : Result Bool Cause) → r ≡ Ok true → r ≡ Ok false → ⊥
  true_is_false r h k = let is = sym h ∙ k in absurd (cc is)

  pub if_none_first : condition s.types e ≡ Ok true → Tells s p x t None → Tells s (If e p q) x t None
  if_none_first is h clear within (if_true holds step) = h (ap (λ r. in_branch r (cause_in s p) (cause_in s q)) (sym is) ∙ sym (if_cause s e p q) ∙ clear) within step
  if_none_first is h clear within (if_false fails step) = true_is_false (condition s.types e) is fails

  pub if_first_comes : (o : Origin) → condition s.types e ≡ Ok true → ComesFrom s p x t o → ComesFrom s (If e p q) x t (Below (OnBranch Left) o)
  if_first_comes o is h = (if_true is h.0, ap (Below (OnBranch Left)) h.1)

  pub if_none_second : condition s.types e ≡ Ok false → Tells s q x t None → Tells s (If e p q) x t None
  if_none_second is h clear within (if_true holds step) = true_is_false (condition s.types e) holds is
  if_none_second is h clear within (if_false fails step) = h (ap (λ r. in_branch r (cause_in s p) (cause_in s q)) (sym is) ∙ sym (if_cause s e p q) ∙ clear) within step

  pub if_second_comes : (o : Origin) → condition s.types e ≡ Ok false → ComesFrom s q x t o → ComesFrom s (If e p q) x t (Below (OnBranch Right) o)
  if_second_comes o is h = (if_false is h.0, ap (Below (OnBranch Right)) h.1)

  pub if_stuck : (c : Cause) → condition s.types e ≡ Err c → ¬ RuleStep s (If e p q) x t
  if_stuck c is (if_true holds step) = let e = sym is ∙ holds in absurd (cc e)
  if_stuck c is (if_false fails step) = let e = sym is ∙ fails in absurd (cc e)
