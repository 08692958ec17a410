-- The ways of the parallel compositions.
use Rattle.std.proofs.Common.{◌≡◌, suc, ◌+◌, Bool, true, false, IsTrue, [], ◌∷◌, refl, sym, subst, inl, inr, arith, Option, Some, None}
use Rattle.theory_syntax.specs.Value.{Event, Action, Tau, Tick, Ev}
use Rattle.theory_syntax.specs.Process.{Process, Omega, Script}
use Rattle.theory_semantics.specs.Meaning.Limits.{fits}
use Rattle.theory_semantics.specs.Meaning.Transitions.{RuleStep}
use Rattle.theory_origins.specs.Origin.{Left, Right, OnSide, SideEnds, Origin, Ends}
use Rattle.theory_origins.specs.Telling.{IsBody, IsParallel, IsSplit, TellsBoth, TellsWhere}
use Rattle.theory_origins.specs.Ways.{AreWays, Both, Here, IsBodyWhere, IsSplitWhere, TellsBy, Through, first_of, part, second_of}
use Rattle.theory_origins.specs.Weight.{weight}
use Rattle.theory_origins.proofs.TellingTogether.{both_of, left_comes, left_ends, parallel_ends, parallel_no_event, parallel_no_tau, right_comes, right_ends}
use Rattle.theory_origins.proofs.Ways.{along, closed, no_ways, none_under, none_where, one_here, told_under, told_where}

module _ (s : Script) (under : Process → Process → Process) (p q : Process) (x : Action) (t : Process) where
  pub told_both : (b : Bool) (parts : Option (Process × Process)) → IsSplitWhere b under t parts → (o : Origin) → TellsBy s (Both (part p x (first_of parts)) (part q x (second_of parts))) (Some o) →
      (b ≡ true) × TellsBoth s under p q x t (Some o)
  told_both true (Some parts) is o h = (refl, (parts.0, parts.1, h.0, h.1, is.0, h.4, h.2, h.3))
  told_both true None is o h = absurd (let e = h.2 in cc e)
  told_both false (Some parts) is o h = absurd (cc is)
  told_both false None is o h = absurd (let e = h.2 in cc e)

  none_both : (parts : Option (Process × Process)) → IsSplit under t parts → TellsBy s (Both (part p x (first_of parts)) (part q x (second_of parts))) None → TellsBoth s under p q x t None
  none_both (Some parts) is (inl h) = λ clear other u v made within_u within_v left right.
      let P : Process → Type 0 = λ w. IsTrue (fits w) → RuleStep s p x w → ⊥ in subst P (sym (is.1 u v made).0) (h clear) within_u left
  none_both (Some parts) is (inr h) = λ clear other u v made within_u within_v left right.
      let P : Process → Type 0 = λ w. IsTrue (fits w) → RuleStep s q x w → ⊥ in subst P (sym (is.1 u v made).1) (h other) within_v right
  none_both None is h = λ clear other u v made within_u within_v left right. is u v made

  pub none_both_where : (b : Bool) (parts : Option (Process × Process)) → IsSplitWhere b under t parts → TellsBy s (Both (part p x (first_of parts)) (part q x (second_of parts))) None →
      TellsWhere b (TellsBoth s under p q x t) None
  none_both_where true parts is h = none_both parts is h
  none_both_where false parts is h = refl

module _ (s : Script) (under : Process → Process → Process) (left_free right_free shared : Event → Bool) (rules : IsParallel s under left_free right_free shared)
    (larger : (p q : Process) → weight s (under p q) ≡ suc (weight s p + weight s q)) (p q t : Process) where
  pub parallel_tau_ways : (ou ov ox oy : Option Process) → IsBody (λ u. under u q) t ou → IsBody (λ v. under p v) t ov → IsBody (λ u. under u q) t ox → IsBody (λ v. under p v) t oy →
      AreWays s (under p q) Tau t (Through (OnSide Left) (part p Tau ou) ∷ Through (OnSide Right) (part q Tau ov) ∷ Through (SideEnds Left) (part p Tick ox) ∷ Through (SideEnds Right) (part q Tick oy) ∷ [])
  parallel_tau_ways ou ov ox oy left right left_end right_end = record {
    sound = (
      along s p Tau ou (OnSide Left) (under p q) Tau t (λ b h. left_comes s under left_free right_free shared rules p q Tau t b tt (told_under s (λ u. under u q) p Tau t ou left b h)),
      (
        along s q Tau ov (OnSide Right) (under p q) Tau t (λ b h. right_comes s under left_free right_free shared rules p q Tau t b tt (told_under s (λ v. under p v) q Tau t ov right b h)),
        (
          along s p Tick ox (SideEnds Left) (under p q) Tau t (λ b h. left_ends s under left_free right_free shared rules p q t b (told_under s (λ u. under u q) p Tick t ox left_end b h)),
          (along s q Tick oy (SideEnds Right) (under p q) Tau t (λ b h. right_ends s under left_free right_free shared rules p q t b (told_under s (λ v. under p v) q Tick t oy right_end b h)), tt),
        ),
      ),
    );
    complete = λ all. parallel_no_tau s under left_free right_free shared rules p q t
        (none_under s (λ u. under u q) p Tau t ou left (closed s p Tau ou (OnSide Left) all.0)) (none_under s (λ v. under p v) q Tau t ov right (closed s q Tau ov (OnSide Right) all.1.0))
        (none_under s (λ u. under u q) p Tick t ox left_end (closed s p Tick ox (SideEnds Left) all.1.1.0)) (none_under s (λ v. under p v) q Tick t oy right_end (closed s q Tick oy (SideEnds Right) all.1.1.1.0));
    smaller = (omega (arith, larger p q), (omega (arith, larger p q), (omega (arith, larger p q), (omega (arith, larger p q), tt))));
  }

  pub parallel_event_ways : (e : Event) (ou ov : Option Process) (parts : Option (Process × Process)) → IsBodyWhere (left_free e) (λ u. under u q) t ou → IsBodyWhere (right_free e) (λ v. under p v) t ov →
      IsSplitWhere (shared e) under t parts →
      AreWays s (under p q) (Ev e) t (Through (OnSide Left) (part p (Ev e) ou) ∷ Through (OnSide Right) (part q (Ev e) ov) ∷ Both (part p (Ev e) (first_of parts)) (part q (Ev e) (second_of parts)) ∷ [])
  parallel_event_ways e ou ov parts left right both = record {
    sound = (
      along s p (Ev e) ou (OnSide Left) (under p q) (Ev e) t (λ b h. let told = told_where s (λ u. under u q) p (Ev e) t (left_free e) ou left b h in left_comes s under left_free right_free shared rules p q (Ev e) t b told.0 told.1),
      (
        along s q (Ev e) ov (OnSide Right) (under p q) (Ev e) t (λ b h. let told = told_where s (λ v. under p v) q (Ev e) t (right_free e) ov right b h in right_comes s under left_free right_free shared rules p q (Ev e) t b told.0 told.1),
        (λ o h. let told = told_both s under p q (Ev e) t (shared e) parts both o h in both_of s under left_free right_free shared rules p q e t o told.0 told.1, tt),
      ),
    );
    complete = λ all. parallel_no_event s under left_free right_free shared rules p q e t
        (none_where s (λ u. under u q) p (Ev e) t (left_free e) ou left (closed s p (Ev e) ou (OnSide Left) all.0)) (none_where s (λ v. under p v) q (Ev e) t (right_free e) ov right (closed s q (Ev e) ov (OnSide Right) all.1.0))
        (none_both_where s under p q (Ev e) t (shared e) parts both all.1.1.0);
    smaller = (omega (arith, larger p q), (omega (arith, larger p q), (omega (arith, larger p q), tt)));
  }

  pub parallel_ended_ways : p ≡ Omega → q ≡ Omega → t ≡ Omega → AreWays s (under p q) Tick t (Here Ends ∷ [])
  parallel_ended_ways first second is = one_here s (under p q) Tick t Ends (parallel_ends s under left_free right_free shared rules p q t first second is)

  pub parallel_running_ways : ¬ ((p ≡ Omega) × (q ≡ Omega) × (t ≡ Omega)) → AreWays s (under p q) Tick t []
  parallel_running_ways running = no_ways s (under p q) Tick t (λ clear within step. running (rules.ticks p q t step))
