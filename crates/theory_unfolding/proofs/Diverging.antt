-- Divergence is the same in both readings: between two taus at once there are not more taus of calls than the limits allow.
use Rattle.std.proofs.Common.{inl, inr, nat_le, ℕ, zero, suc, ◌+◌, ◌*◌, ◌≤◌, List, [], replicate, refl, subst, arith, IsTrue}
use Rattle.std.proofs.lemmas.Bool.{leb-true}
use Rattle.std.proofs.lemmas.List.{replicate-append-replicate}
use Rattle.theory_syntax.specs.Value.{Action, Tau}
use Rattle.theory_syntax.specs.Process.{Process, Script}
use Rattle.theory_syntax.proofs.Truths.{and_first}
use Rattle.theory_semantics.specs.Meaning.Limits.{size, depth, max_size, max_depth, fits}
use Rattle.theory_semantics.specs.Meaning.Unfolding.{most_unfoldings}
use Rattle.theory_semantics.specs.Meaning.Transitions.{Step}
use Rattle.theory_semantics.specs.Meaning.Runs.{Run, NoneStuck}
use Rattle.theory_semantics.specs.Meaning.Divergence.{Diverges}
use Rattle.theory_semantics.specs.Meaning.Properties.{IsDivergenceFree}
use Rattle.theory_syntax.specs.Readings.{by_tau, at_once}
use Rattle.theory_unfolding.specs.Unfolded.{UnfoldsTo, IsUnfoldedTo}
use Rattle.theory_unfolding.proofs.Following.{Follows, followed}
use Rattle.theory_unfolding.proofs.Bounding.{bounded}
use Rattle.theory_unfolding.proofs.Running.{run_joined, none_after, none_reached, step_back, same_not_stuck, runs_to, run_on, run_back}

-- a run of taus cut short
cut : (script : Script) (m n : ℕ) (t w : Process) → n ≤ m → Run script t (replicate m Tau) w → (z : Process) × Run script t (replicate n Tau) z
cut script m zero t w le run = (t, refl)
cut script zero (suc n) t w le run = absurd (omega (arith, le))
cut script (suc m) (suc n) t w le run = let r = cut script m n run.0 w (omega (arith, le)) run.2 in (r.0, (run.0, run.1, r.1))

module _ (s : Script) where
  -- ---- what diverges at once diverges by tau

  taus_back : (n : ℕ) (t v u : Process) → IsUnfoldedTo s t v → Run (at_once s) v (replicate n Tau) u → (m : ℕ) × (n ≤ m) × (w : Process) × Run (by_tau s) t (replicate m Tau) w
  taus_back zero t v u d run = (0, omega arith, t, refl)
  taus_back (suc n) t v u d run =
      let h = step_back s v Tau run.0 run.1.1 in
      let r = taus_back n h.0 run.0 u h.2 run.2 in
      let first = runs_to s t v d run.1.0 in
      let rest : Run (by_tau s) v (replicate (suc r.0) Tau) r.2 = (h.0, (same_not_stuck s v run.1.0, h.1), r.3) in
      let P : List Action → Type 0 = λ p. Run (by_tau s) t p r.2 in
      (d.0 + suc r.0, omega (arith, r.1), r.2, subst P (replicate-append-replicate d.0 (suc r.0) Tau) (run_joined (by_tau s) (replicate d.0 Tau) (replicate (suc r.0) Tau) t v r.2 first rest))

  pub diverges_back : (t v : Process) → IsUnfoldedTo s t v → Diverges (at_once s) v → Diverges (by_tau s) t
  diverges_back t v d div n = let h = div n in let r = taus_back n t v h.0 d h.1 in cut (by_tau s) r.0 n t r.2 r.1 r.3

  -- ---- and the other way round

  abbrev most_taus : ℕ
  most_taus = most_unfoldings * max_size

  few : (k : ℕ) (w u : Process) → UnfoldsTo s most_unfoldings k w u → IsTrue (fits u) → k ≤ most_taus
  few k w u d h = let in_size = leb-true (size u) max_size (and_first (nat_le (size u) max_size) (nat_le (depth u) max_depth) h) in omega (arith, bounded s d, in_size)

  -- a run of taus of v, all but so few of those of a run by tau
  abbrev RunsOn : ℕ → ℕ → Process → Type 0
  RunsOn l k v = (m : ℕ) × (u : Process) × Run (at_once s) v (replicate m Tau) u × (l ≤ k + m * suc most_taus)

  one_tau : (l k : ℕ) (w v : Process) → NoneStuck (at_once s) v → ((z : Process) (j : ℕ) → UnfoldsTo s most_unfoldings j w z → NoneStuck (at_once s) z → RunsOn l j z) →
      Follows s most_unfoldings k v Tau w → RunsOn (suc l) k v
  one_tau l k w v none rest (inl h) = let r = rest v h.1 h.3 none in (r.0, r.1, r.2, omega (arith, r.3, h.2))
  one_tau l k w v none rest (inr h) =
      let step : Step (at_once s) v Tau h.0 = (none [] v refl, h.1) in
      let still = none_after (at_once s) v Tau h.0 none step in
      let r = rest h.0 h.2.0 h.2.1 still in
      let j = few h.2.0 w h.0 h.2.1 (still [] h.0 refl).within in
      (suc r.0, r.1, (h.0, step, r.2), omega (arith, r.3, j))

  taus_on : (l : ℕ) (t w v : Process) (k : ℕ) → UnfoldsTo s most_unfoldings k t v → NoneStuck (at_once s) v → Run (by_tau s) t (replicate l Tau) w → RunsOn l k v
  taus_on zero t w v k d none run = (0, v, refl, omega arith)
  taus_on (suc l) t w v k d none run =
      one_tau l k run.0 v none (λ z j e still. taus_on l run.0 w z j e still run.2) (followed s most_unfoldings (omega arith) t v d Tau run.0 run.1.1)

  pub diverges_on : (t v : Process) → IsUnfoldedTo s t v → NoneStuck (at_once s) v → Diverges (by_tau s) t → Diverges (at_once s) v
  diverges_on t v d none div n =
      let h = div (d.0 + n * suc most_taus) in
      let r = taus_on (d.0 + n * suc most_taus) t h.0 v d.0 d.1 none h.1 in
      cut (at_once s) r.0 n v r.1 (omega (arith, r.3)) r.2

  -- ---- freedom of divergence

  pub divergence_free_on : (t v : Process) → IsUnfoldedTo s t v → NoneStuck (at_once s) v → IsDivergenceFree (at_once s) v → IsDivergenceFree (by_tau s) t
  divergence_free_on t v d none free path w run div =
      let r = run_on s path t w v d none run in free r.0 r.1 r.2 (diverges_on w r.1 r.4 (none_reached (at_once s) v r.0 r.1 none r.2) div)

  pub divergence_free_back : (t v : Process) → IsUnfoldedTo s t v → IsDivergenceFree (by_tau s) t → IsDivergenceFree (at_once s) v
  divergence_free_back t v d free path u run div =
      let r = run_back s path t v u d run in free r.0 r.1 r.2 (diverges_back r.1 u r.4 div)
