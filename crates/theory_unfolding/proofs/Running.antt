-- Runs of a term in one reading, and of what it is unfolded to in the other.
use Rattle.std.proofs.Common.{◌≡◌, inl, inr, ℕ, zero, suc, ◌≤◌, List, [], ◌∷◌, ◌++◌, replicate, refl, sym, ◌∙◌, ap, subst, arith, IsTrue}
use Rattle.theory_syntax.specs.Value.{Action, Tau, Tick, Ev}
use Rattle.theory_syntax.specs.Process.{Process, ByTau, AtOnce, Script}
use Rattle.theory_semantics.specs.Meaning.Limits.{fits}
use Rattle.theory_semantics.specs.Meaning.Unfolding.{most_unfoldings}
use Rattle.theory_semantics.specs.Meaning.Transitions.{RuleStep, IsNotStuck, Step}
use Rattle.theory_semantics.specs.Meaning.Runs.{Run, trace, NoneStuck}
use Rattle.theory_syntax.specs.Readings.{by_tau, at_once}
use Rattle.theory_unfolding.specs.Unfolded.{UnfoldsTo, itself, external, sequential_first, interleaved, interrupted, generalised, alphabetised, hidden, renamed, slid, IsUnfoldedTo}
use Rattle.theory_unfolding.proofs.Readings.{same_cause}
use Rattle.theory_unfolding.proofs.Converting.{IsKept, converted}
use Rattle.theory_unfolding.proofs.Settled.{settled_unfolded}
use Rattle.theory_unfolding.proofs.Following.{Follows, followed, unfolds_kept}
use Rattle.theory_unfolding.proofs.Before.{fits_before, cause_before}
use Rattle.theory_unfolding.proofs.Reaching.{Taus, there, on, reached}

-- ---- runs

pub run_joined : (script : Script) (p q : List Action) (t u v : Process) → Run script t p u → Run script u q v → Run script t (p ++ q) v
run_joined script [] q t u v first rest = let P : Process → Type 0 = λ z. Run script z q v in subst P (sym first) rest
run_joined script (x ∷ p) q t u v first rest = (first.0, first.1, run_joined script p q first.0 u v first.2 rest)

-- taus leave no trace
pub taus_trace : (k : ℕ) (p : List Action) → trace (replicate k Tau ++ p) ≡ trace p
taus_trace zero p = refl
taus_trace (suc k) p = taus_trace k p

pub trace_step : (x : Action) (p q : List Action) → trace p ≡ trace q → trace (x ∷ p) ≡ trace (x ∷ q)
trace_step Tau p q e = e
trace_step Tick p q e = ap (λ s. Tick ∷ s) e
trace_step (Ev f) p q e = ap (λ s. Ev f ∷ s) e

pub none_after : (script : Script) (t : Process) (x : Action) (u : Process) → NoneStuck script t → Step script t x u → NoneStuck script u
none_after script t x u none step = λ path v run. none (x ∷ path) v (u, step, run)

pub none_reached : (script : Script) (t : Process) (path : List Action) (u : Process) → NoneStuck script t → Run script t path u → NoneStuck script u
none_reached script t path u none run = λ more v rest. none (path ++ more) v (run_joined script path more t u v run rest)

module _ (s : Script) where
  -- ---- steps

  -- a step at once is one by tau, to a term that is unfolded to the target
  pub step_back : (t : Process) (x : Action) (u : Process) → RuleStep (at_once s) t x u → (w : Process) × RuleStep (by_tau s) t x w × IsUnfoldedTo s w u
  step_back t x u h = converted s AtOnce ByTau (λ u w. IsUnfoldedTo s w u) kept (settled_unfolded s) t x u h
    where
      kept : IsKept (λ u w. IsUnfoldedTo s w u)
      kept = record {
        same = λ p. (0, itself);
        externals = λ p q v w d e. (_, external d.1 e.1);
        sequentials = λ p q v d. (_, sequential_first d.1);
        interleavings = λ p q v w d e. (_, interleaved d.1 e.1);
        interrupts = λ p q v w d e. (_, interrupted d.1 e.1);
        generaliseds = λ p q v w a d e. (_, generalised d.1 e.1);
        alphabetiseds = λ p q v w a b d e. (_, alphabetised d.1 e.1);
        hidings = λ p v a d. (_, hidden d.1);
        renamings = λ p v rs d. (_, renamed d.1);
        slides = λ p q v d. (_, slid d.1);
      }

  -- and the other way round
  pub step_on : (t : Process) (x : Action) (w : Process) → RuleStep (by_tau s) t x w → (u : Process) × RuleStep (at_once s) t x u × IsUnfoldedTo s w u
  step_on t x w h = let k = converted s ByTau AtOnce (IsUnfoldedTo s) (unfolds_kept s) (settled_unfolded s) t x w h in (k.0, k.1, k.2)

  -- ---- stuck terms

  -- what is unfolded to a term that is not stuck is not stuck
  pub not_stuck_before : {n k : ℕ} → n ≤ most_unfoldings → {t v : Process} → UnfoldsTo s n k t v → IsNotStuck (at_once s) v → IsNotStuck (by_tau s) t
  not_stuck_before {n} {k} most {t} {v} d is = record {
    within = fits_before s d is.within;
    no_cause = cause_before s d (same_cause s ByTau AtOnce v ∙ is.no_cause);
    targets = λ x w h. fitting x w (followed s n most t v d x w h);
  }
    where
      fitting : (x : Action) (w : Process) → Follows s n k v x w → IsTrue (fits w)
      fitting x w (inl h) = fits_before s h.3 is.within
      fitting x w (inr h) = fits_before s h.2.1 (is.targets x h.0 h.1)

  pub same_not_stuck : (t : Process) → IsNotStuck (at_once s) t → IsNotStuck (by_tau s) t
  same_not_stuck t is = not_stuck_before {n = 0} {k = 0} (omega arith) itself is

  taus_run : (v : Process) → IsNotStuck (at_once s) v → (n : ℕ) → n ≤ most_unfoldings → {j k : ℕ} {t u : Process} → UnfoldsTo s n j t v → Taus s v n k t u → Run (by_tau s) t (replicate k Tau) u
  taus_run v is n most d there = refl
  taus_run v is n most d (on {m = m} h e rest) = (m, (not_stuck_before most d is, h), taus_run v is n most e rest)

  -- a term runs by taus to what it is unfolded to, where that is not stuck
  pub runs_to : (t v : Process) → (d : IsUnfoldedTo s t v) → IsNotStuck (at_once s) v → Run (by_tau s) t (replicate d.0 Tau) v
  runs_to t v d is = taus_run v is most_unfoldings (omega arith) d.1 (reached s d.1)

  -- ---- from one reading to the other

  -- a run of v with the trace of a path, to what w is unfolded to
  abbrev RunsAlong : List Action → Process → Process → Type 0
  RunsAlong path w v = (p : List Action) × (u : Process) × Run (at_once s) v p u × (trace p ≡ trace path) × IsUnfoldedTo s w u

  runs_along : (x : Action) (path : List Action) (m w v : Process) (k : ℕ) → NoneStuck (at_once s) v →
      ((z : Process) → IsUnfoldedTo s m z → NoneStuck (at_once s) z → RunsAlong path w z) → Follows s most_unfoldings k v x m → RunsAlong (x ∷ path) w v
  runs_along x path m w v k none rest (inl h) = let r = rest v (h.1, h.3) none in (r.0, r.1, r.2, r.3 ∙ ap (λ y. trace (y ∷ path)) (sym h.0), r.4)
  runs_along x path m w v k none rest (inr h) =
      let step : Step (at_once s) v x h.0 = (none [] v refl, h.1) in let r = rest h.0 h.2 (none_after (at_once s) v x h.0 none step) in
      (x ∷ r.0, r.1, (h.0, step, r.2), trace_step x r.0 path r.3, r.4)

  -- A run by tau is followed at once.
  pub run_on : (path : List Action) (t w v : Process) → IsUnfoldedTo s t v → NoneStuck (at_once s) v → Run (by_tau s) t path w → RunsAlong path w v
  run_on [] t w v d none run = ([], v, refl, refl, let P : Process → Type 0 = λ z. IsUnfoldedTo s z v in subst P run d)
  run_on (x ∷ path) t w v d none run =
      runs_along x path run.0 w v d.0 none (λ z e still. run_on path run.0 w z e still run.2) (followed s most_unfoldings (omega arith) t v d.1 x run.0 run.1.1)

  -- A run at once is one by tau, with more taus.
  pub run_back : (path : List Action) (t v u : Process) → IsUnfoldedTo s t v → Run (at_once s) v path u →
      (p : List Action) × (w : Process) × Run (by_tau s) t p w × (trace p ≡ trace path) × IsUnfoldedTo s w u
  run_back [] t v u d run = ([], t, refl, refl, let P : Process → Type 0 = λ z. IsUnfoldedTo s t z in subst P run d)
  run_back (x ∷ path) t v u d run =
      let h = step_back v x run.0 run.1.1 in
      let r = run_back path h.0 run.0 u h.2 run.2 in (
        replicate d.0 Tau ++ x ∷ r.0,
        r.1,
        run_joined (by_tau s) (replicate d.0 Tau) (x ∷ r.0) t v r.1 (runs_to t v d run.1.0) (h.0, (same_not_stuck v run.1.0, h.1), r.2),
        taus_trace d.0 (x ∷ r.0) ∙ trace_step x r.0 path r.3,
        r.4,
      )

  -- where its end is not stuck, to the very end
  pub run_to_end : (path : List Action) (t v u : Process) → IsUnfoldedTo s t v → Run (at_once s) v path u → IsNotStuck (at_once s) u →
      (p : List Action) × Run (by_tau s) t p u × (trace p ≡ trace path)
  run_to_end path t v u d run is =
      let r = run_back path t v u d run in
      (r.0 ++ replicate r.4.0 Tau, run_joined (by_tau s) r.0 (replicate r.4.0 Tau) t r.1 u r.2 (runs_to r.1 u r.4 is), taus_last r.0 r.4.0 ∙ r.3)
    where
      only_taus : (k : ℕ) → trace (replicate k Tau) ≡ []
      only_taus zero = refl
      only_taus (suc k) = only_taus k

      taus_last : (p : List Action) (k : ℕ) → trace (p ++ replicate k Tau) ≡ trace p
      taus_last [] k = only_taus k
      taus_last (x ∷ p) k = trace_step x (p ++ replicate k Tau) p (taus_last p k)
