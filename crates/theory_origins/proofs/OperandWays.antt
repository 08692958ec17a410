-- The ways of the operators of two processes that do not run side by side, and of conditions.
use Rattle.std.proofs.Common.{◌≡◌, [], ◌∷◌, true, false, arith, Option, Some, Ok}
use Rattle.theory_syntax.specs.Value.{Event, Action, Tau, Tick, Ev}
use Rattle.theory_syntax.specs.Expression.{Expression}
use Rattle.theory_syntax.specs.Process.{Process, Guard, If, ExternalChoice, InternalChoice, Sequential, Interrupt, SlidingChoice, Script}
use Rattle.theory_syntax.specs.declared.process_operator.ProcessOperator.TheVariants as binary
use Rattle.theory_semantics.specs.Meaning.Events.{condition}
use Rattle.theory_semantics.specs.Meaning.Unfolding.{settled}
use Rattle.theory_semantics.specs.Meaning.Transitions.{IsVisible}
use Rattle.theory_origins.specs.Origin.{Left, Right, OnBranch, UnderGuard, SideEnds, Chooses, Slides}
use Rattle.theory_origins.specs.Telling.{IsBody}
use Rattle.theory_origins.specs.Ways.{AreWays, Here, IsEndAt, Through, part}
use Rattle.theory_origins.proofs.Telling.{chosen_left, chosen_right, chosen_side, external_left_comes, external_no_tau, external_none_visible, external_right_comes, external_tau_left_comes, external_tau_right_comes, guard_comes, guard_none, if_first_comes, if_none_first, if_none_second, if_second_comes, interrupt_left_comes, interrupt_no_event, interrupt_no_tau, interrupt_none_ends, interrupt_right_comes, interrupt_tau_right_comes, interrupt_tick_comes, no_choice_but_tau, sequential_comes, sequential_ends, sequential_no_event, sequential_no_tick, sequential_none, slides, sliding_left_comes, sliding_no_tau, sliding_none_visible, sliding_tau_comes}
use Rattle.theory_origins.proofs.Ways.{along, closed, here_comes, no_ways, none_end, none_under, one_here, told_end, told_under}
use Rattle.theory_origins.proofs.Weighing.{binary_weight, conditional_weight, guard_weight, sliding_weight}

module _ (s : Script) (e : Expression) (p q : Process) (x : Action) (t : Process) where
  pub guard_ways : condition s.types e ≡ Ok true → AreWays s (Guard e p) x t (Through UnderGuard (part p x (Some t)) ∷ [])
  guard_ways is = record {
    sound = (along s p x (Some t) UnderGuard (Guard e p) x t (λ b h. guard_comes s e p x t b is h), tt);
    complete = λ all. guard_none s e p x t is (closed s p x (Some t) UnderGuard all.0);
    smaller = (omega (arith, guard_weight s e p), tt);
  }

  pub first_ways : condition s.types e ≡ Ok true → AreWays s (If e p q) x t (Through (OnBranch Left) (part p x (Some t)) ∷ [])
  first_ways is = record {
    sound = (along s p x (Some t) (OnBranch Left) (If e p q) x t (λ b h. if_first_comes s e p q x t b is h), tt);
    complete = λ all. if_none_first s e p q x t is (closed s p x (Some t) (OnBranch Left) all.0);
    smaller = (omega (arith, conditional_weight s e p q), tt);
  }

  pub second_ways : condition s.types e ≡ Ok false → AreWays s (If e p q) x t (Through (OnBranch Right) (part q x (Some t)) ∷ [])
  second_ways is = record {
    sound = (along s q x (Some t) (OnBranch Right) (If e p q) x t (λ b h. if_second_comes s e p q x t b is h), tt);
    complete = λ all. if_none_second s e p q x t is (closed s q x (Some t) (OnBranch Right) all.0);
    smaller = (omega (arith, conditional_weight s e p q), tt);
  }

module _ (s : Script) (p q t : Process) where
  pub external_tau_ways : (ou ov : Option Process) → IsBody (λ u. ExternalChoice u q) t ou → IsBody (λ v. ExternalChoice p v) t ov →
      AreWays s (ExternalChoice p q) Tau t (Through (OnBranch Left) (part p Tau ou) ∷ Through (OnBranch Right) (part q Tau ov) ∷ [])
  external_tau_ways ou ov left right = record {
    sound = (
      along s p Tau ou (OnBranch Left) (ExternalChoice p q) Tau t (λ b h. external_tau_left_comes s p q t b (told_under s (λ u. ExternalChoice u q) p Tau t ou left b h)),
      (along s q Tau ov (OnBranch Right) (ExternalChoice p q) Tau t (λ b h. external_tau_right_comes s p q t b (told_under s (λ v. ExternalChoice p v) q Tau t ov right b h)), tt),
    );
    complete = λ all. external_no_tau s p q t (none_under s (λ u. ExternalChoice u q) p Tau t ou left (closed s p Tau ou (OnBranch Left) all.0)) (none_under s (λ v. ExternalChoice p v) q Tau t ov right (closed s q Tau ov (OnBranch Right) all.1.0));
    smaller = (omega (arith, binary_weight s binary.ExternalChoice p q), (omega (arith, binary_weight s binary.ExternalChoice p q), tt));
  }

  pub external_visible_ways : (x : Action) → IsVisible x → AreWays s (ExternalChoice p q) x t (Through (OnBranch Left) (part p x (Some t)) ∷ Through (OnBranch Right) (part q x (Some t)) ∷ [])
  external_visible_ways x seen = record {
    sound = (
      along s p x (Some t) (OnBranch Left) (ExternalChoice p q) x t (λ b h. external_left_comes s p q x t b seen h),
      (along s q x (Some t) (OnBranch Right) (ExternalChoice p q) x t (λ b h. external_right_comes s p q x t b seen h), tt),
    );
    complete = λ all. external_none_visible s p q x t seen (closed s p x (Some t) (OnBranch Left) all.0) (closed s q x (Some t) (OnBranch Right) all.1.0);
    smaller = (omega (arith, binary_weight s binary.ExternalChoice p q), (omega (arith, binary_weight s binary.ExternalChoice p q), tt));
  }

  pub left_choice_ways : t ≡ settled s p → AreWays s (InternalChoice p q) Tau t (Here (Chooses Left) ∷ [])
  left_choice_ways is = one_here s (InternalChoice p q) Tau t (Chooses Left) (chosen_left s p q t is)

  pub right_choice_ways : t ≡ settled s q → AreWays s (InternalChoice p q) Tau t (Here (Chooses Right) ∷ [])
  right_choice_ways is = one_here s (InternalChoice p q) Tau t (Chooses Right) (chosen_right s p q t is)

  pub no_choice_ways : ¬ (t ≡ settled s p) → ¬ (t ≡ settled s q) → AreWays s (InternalChoice p q) Tau t []
  no_choice_ways not_left not_right = no_ways s (InternalChoice p q) Tau t (λ clear within. chosen_side s p q t not_left not_right)

  pub no_visible_choice_ways : (x : Action) → IsVisible x → AreWays s (InternalChoice p q) x t []
  no_visible_choice_ways x seen = no_ways s (InternalChoice p q) x t (λ clear within step. unseen x seen (no_choice_but_tau s p q x t step))
    where
      unseen : (x : Action) → IsVisible x → x ≡ Tau → ⊥
      unseen Tau seen is = seen
      unseen Tick seen is = cc is
      unseen (Ev e) seen is = cc is

  pub sequential_tau_ways : (ou ended : Option Process) → IsBody (λ u. Sequential u q) t ou → IsEndAt t (settled s q) ended →
      AreWays s (Sequential p q) Tau t (Through (OnBranch Left) (part p Tau ou) ∷ Through (SideEnds Left) (part p Tick ended) ∷ [])
  sequential_tau_ways ou ended left end = record {
    sound = (
      along s p Tau ou (OnBranch Left) (Sequential p q) Tau t (λ b h. sequential_comes s p q Tau t b tt (told_under s (λ u. Sequential u q) p Tau t ou left b h)),
      (along s p Tick ended (SideEnds Left) (Sequential p q) Tau t (λ b h. let c = told_end s p (settled s q) t ended end b h in sequential_ends s p q t b c.0 c.1), tt),
    );
    complete = λ all. sequential_none s p q Tau t (none_under s (λ u. Sequential u q) p Tau t ou left (closed s p Tau ou (OnBranch Left) all.0)) (none_end s p (settled s q) t ended end (closed s p Tick ended (SideEnds Left) all.1.0));
    smaller = (omega (arith, binary_weight s binary.Sequential p q), (omega (arith, binary_weight s binary.Sequential p q), tt));
  }

  pub sequential_event_ways : (e : Event) (ou : Option Process) → IsBody (λ u. Sequential u q) t ou → AreWays s (Sequential p q) (Ev e) t (Through (OnBranch Left) (part p (Ev e) ou) ∷ [])
  sequential_event_ways e ou left = record {
    sound = (along s p (Ev e) ou (OnBranch Left) (Sequential p q) (Ev e) t (λ b h. sequential_comes s p q (Ev e) t b tt (told_under s (λ u. Sequential u q) p (Ev e) t ou left b h)), tt);
    complete = λ all. sequential_no_event s p q e t (none_under s (λ u. Sequential u q) p (Ev e) t ou left (closed s p (Ev e) ou (OnBranch Left) all.0));
    smaller = (omega (arith, binary_weight s binary.Sequential p q), tt);
  }

  pub sequential_tick_ways : AreWays s (Sequential p q) Tick t []
  sequential_tick_ways = no_ways s (Sequential p q) Tick t (λ clear within. sequential_no_tick s p q t)

  pub interrupt_tau_ways : (ou ov : Option Process) → IsBody (λ u. Interrupt u q) t ou → IsBody (λ v. Interrupt p v) t ov →
      AreWays s (Interrupt p q) Tau t (Through (OnBranch Left) (part p Tau ou) ∷ Through (OnBranch Right) (part q Tau ov) ∷ [])
  interrupt_tau_ways ou ov left right = record {
    sound = (
      along s p Tau ou (OnBranch Left) (Interrupt p q) Tau t (λ b h. interrupt_left_comes s p q Tau t b tt (told_under s (λ u. Interrupt u q) p Tau t ou left b h)),
      (along s q Tau ov (OnBranch Right) (Interrupt p q) Tau t (λ b h. interrupt_tau_right_comes s p q t b (told_under s (λ v. Interrupt p v) q Tau t ov right b h)), tt),
    );
    complete = λ all. interrupt_no_tau s p q t (none_under s (λ u. Interrupt u q) p Tau t ou left (closed s p Tau ou (OnBranch Left) all.0)) (none_under s (λ v. Interrupt p v) q Tau t ov right (closed s q Tau ov (OnBranch Right) all.1.0));
    smaller = (omega (arith, binary_weight s binary.Interrupt p q), (omega (arith, binary_weight s binary.Interrupt p q), tt));
  }

  pub interrupt_event_ways : (e : Event) (ou : Option Process) → IsBody (λ u. Interrupt u q) t ou →
      AreWays s (Interrupt p q) (Ev e) t (Through (OnBranch Left) (part p (Ev e) ou) ∷ Through (OnBranch Right) (part q (Ev e) (Some t)) ∷ [])
  interrupt_event_ways e ou left = record {
    sound = (
      along s p (Ev e) ou (OnBranch Left) (Interrupt p q) (Ev e) t (λ b h. interrupt_left_comes s p q (Ev e) t b tt (told_under s (λ u. Interrupt u q) p (Ev e) t ou left b h)),
      (along s q (Ev e) (Some t) (OnBranch Right) (Interrupt p q) (Ev e) t (λ b h. interrupt_right_comes s p q (Ev e) t b tt h), tt),
    );
    complete = λ all. interrupt_no_event s p q e t (none_under s (λ u. Interrupt u q) p (Ev e) t ou left (closed s p (Ev e) ou (OnBranch Left) all.0)) (closed s q (Ev e) (Some t) (OnBranch Right) all.1.0);
    smaller = (omega (arith, binary_weight s binary.Interrupt p q), (omega (arith, binary_weight s binary.Interrupt p q), tt));
  }

  pub interrupt_tick_ways : AreWays s (Interrupt p q) Tick t (Through (OnBranch Left) (part p Tick (Some t)) ∷ Through (OnBranch Right) (part q Tick (Some t)) ∷ [])
  interrupt_tick_ways = record {
    sound = (
      along s p Tick (Some t) (OnBranch Left) (Interrupt p q) Tick t (λ b h. interrupt_tick_comes s p q t b h),
      (along s q Tick (Some t) (OnBranch Right) (Interrupt p q) Tick t (λ b h. interrupt_right_comes s p q Tick t b tt h), tt),
    );
    complete = λ all. interrupt_none_ends s p q t (closed s p Tick (Some t) (OnBranch Left) all.0) (closed s q Tick (Some t) (OnBranch Right) all.1.0);
    smaller = (omega (arith, binary_weight s binary.Interrupt p q), (omega (arith, binary_weight s binary.Interrupt p q), tt));
  }

  pub sliding_away_ways : (ou : Option Process) → IsBody (λ u. SlidingChoice u q) t ou → t ≡ settled s q →
      AreWays s (SlidingChoice p q) Tau t (Through (OnBranch Left) (part p Tau ou) ∷ Here Slides ∷ [])
  sliding_away_ways ou left is = record {
    sound = (
      along s p Tau ou (OnBranch Left) (SlidingChoice p q) Tau t (λ b h. sliding_tau_comes s p q t b (told_under s (λ u. SlidingChoice u q) p Tau t ou left b h)),
      (here_comes s (SlidingChoice p q) Tau t Slides (slides s p q t is), tt),
    );
    complete = λ all. absurd (let e = all.1.0 in cc e);
    smaller = (omega (arith, sliding_weight s p q), (omega arith, tt));
  }

  pub sliding_tau_ways : (ou : Option Process) → IsBody (λ u. SlidingChoice u q) t ou → ¬ (t ≡ settled s q) → AreWays s (SlidingChoice p q) Tau t (Through (OnBranch Left) (part p Tau ou) ∷ [])
  sliding_tau_ways ou left other = record {
    sound = (along s p Tau ou (OnBranch Left) (SlidingChoice p q) Tau t (λ b h. sliding_tau_comes s p q t b (told_under s (λ u. SlidingChoice u q) p Tau t ou left b h)), tt);
    complete = λ all. sliding_no_tau s p q t (none_under s (λ u. SlidingChoice u q) p Tau t ou left (closed s p Tau ou (OnBranch Left) all.0)) other;
    smaller = (omega (arith, sliding_weight s p q), tt);
  }

  pub sliding_visible_ways : (x : Action) → IsVisible x → AreWays s (SlidingChoice p q) x t (Through (OnBranch Left) (part p x (Some t)) ∷ [])
  sliding_visible_ways x seen = record {
    sound = (along s p x (Some t) (OnBranch Left) (SlidingChoice p q) x t (λ b h. sliding_left_comes s p q x t b seen h), tt);
    complete = λ all. sliding_none_visible s p q x t seen (closed s p x (Some t) (OnBranch Left) all.0);
    smaller = (omega (arith, sliding_weight s p q), tt);
  }
