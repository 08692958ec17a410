-- A term reaches what it is unfolded to by taus, one for each call that is unfolded.
use Rattle.std.proofs.Common.{◌≡◌, ℕ, suc, ◌+◌, ◌≤◌, subst, arith}
use Rattle.theory_syntax.specs.Value.{Action, Tau}
use Rattle.theory_syntax.specs.Process.{Process, ExternalChoice, Sequential, Interleaving, Interrupt, GeneralisedParallel, AlphabetisedParallel, Hiding, Renaming, SlidingChoice, Script}
use Rattle.theory_semantics.specs.Meaning.Transitions.{RuleStep, call, external_tau_left, external_tau_right, sequential, interleaving_left, interleaving_right, interrupt_left, interrupt_tau_right, generalised_left, generalised_right, alphabetised_left, alphabetised_right, hiding_tau, renaming_tau, sliding_tau}
use Rattle.theory_syntax.specs.Readings.{by_tau}
use Rattle.theory_unfolding.specs.Unfolded.{UnfoldsTo, itself, body, seen_through, external, sequential_first, interleaved, interrupted, generalised, alphabetised, hidden, renamed, slid}
use Rattle.theory_unfolding.proofs.Counting.{raise}
use Rattle.theory_unfolding.proofs.Standing.{step_stand}

-- So many taus from one term to another, through terms that are unfolded to v.
pub data Taus (s : Script) (v : Process) : ℕ → ℕ → Process → Process → Type 0 where
  there : {n : ℕ} {t : Process} → Taus s v n 0 t t
  on : {n j k : ℕ} {t m u : Process} → RuleStep (by_tau s) t Tau m → UnfoldsTo s n j m v → Taus s v n k m u → Taus s v n (suc k) t u

module _ (s : Script) where
  raised : (v : Process) (n m : ℕ) → n ≤ m → {k : ℕ} {t u : Process} → Taus s v n k t u → Taus s v m k t u
  raised v n m most there = there
  raised v n m most (on h d rest) = on h (raise s n m most d) (raised v n m most rest)

  counted : (v : Process) (n j k : ℕ) (t u : Process) → j ≡ k → Taus s v n j t u → Taus s v n k t u
  counted v n j k t u e h = let P : ℕ → Type 0 = λ i. Taus s v n i t u in subst P e h

  joined : {v : Process} {n j k : ℕ} {t m u : Process} → Taus s v n j t m → Taus s v n k m u → Taus s v n (j + k) t u
  joined {v = v} {n = n} {k = k} {t = t} {u = u} there after = counted v n k (0 + k) t u (omega arith) after
  joined {v = v} {n = n} {k = k} {t = t} {u = u} (on {k = j} h d rest) after = counted v n (suc (j + k)) (suc j + k) t u (omega arith) (on h d (joined rest after))

  -- taus of a side are taus under an operator
  under : (op : Process → Process) (v o : Process) {n : ℕ} → ((p t : Process) → RuleStep (by_tau s) p Tau t → RuleStep (by_tau s) (op p) Tau (op t)) →
      ((j : ℕ) (m : Process) → UnfoldsTo s n j m v → (i : ℕ) × UnfoldsTo s n i (op m) o) → {k : ℕ} {t u : Process} → Taus s v n k t u → Taus s o n k (op t) (op u)
  under op v o rule below there = there
  under op v o rule below (on {j = j} {m = m} h d rest) = let e = below j m d in on (rule _ m h) e.1 (under op v o rule below rest)

  -- the taus of a process are those of what stands for it
  standing : {v : Process} {n k : ℕ} {t q u : Process} → ((x : Action) (w : Process) → RuleStep (by_tau s) q x w → RuleStep (by_tau s) t x w) → Taus s v n (suc k) q u → Taus s v n (suc k) t u
  standing rule (on {m = m} h d rest) = on (rule Tau m h) d rest

  pub reached : {n k : ℕ} {t v : Process} → UnfoldsTo s n k t v → Taus s v n k t v
  reached itself = there
  reached (body {n = n} {v = v} is smaller d) = on (call is) (raise s n (suc n) (omega arith) d) (raised v n (suc n) (omega arith) (reached d))
  reached (seen_through {n = n} {p = p} {q = q} {v = v} is smaller d) = standing (λ x w h. step_stand s p q x w is h) (raised v n (suc n) (omega arith) (reached d))
  reached (external {p = p} {q = q} {v = v} {w = w} d e) = joined
      (under (λ z. ExternalChoice z q) v (ExternalChoice v w) (λ p t h. external_tau_left h) (λ j m f. (_, external f e)) (reached d))
      (under (λ z. ExternalChoice v z) w (ExternalChoice v w) (λ p t h. external_tau_right h) (λ j m f. (_, external itself f)) (reached e))
  reached (sequential_first {q = q} {v = v} d) = under (λ z. Sequential z q) v (Sequential v q) (λ p t h. sequential tt h) (λ j m f. (_, sequential_first f)) (reached d)
  reached (interleaved {p = p} {q = q} {v = v} {w = w} d e) = joined
      (under (λ z. Interleaving z q) v (Interleaving v w) (λ p t h. interleaving_left tt h) (λ j m f. (_, interleaved f e)) (reached d))
      (under (λ z. Interleaving v z) w (Interleaving v w) (λ p t h. interleaving_right tt h) (λ j m f. (_, interleaved itself f)) (reached e))
  reached (interrupted {p = p} {q = q} {v = v} {w = w} d e) = joined
      (under (λ z. Interrupt z q) v (Interrupt v w) (λ p t h. interrupt_left tt h) (λ j m f. (_, interrupted f e)) (reached d))
      (under (λ z. Interrupt v z) w (Interrupt v w) (λ p t h. interrupt_tau_right h) (λ j m f. (_, interrupted itself f)) (reached e))
  reached (generalised {p = p} {q = q} {v = v} {w = w} {a = a} d e) = joined
      (under (λ z. GeneralisedParallel z a q) v (GeneralisedParallel v a w) (λ p t h. generalised_left tt h) (λ j m f. (_, generalised f e)) (reached d))
      (under (λ z. GeneralisedParallel v a z) w (GeneralisedParallel v a w) (λ p t h. generalised_right tt h) (λ j m f. (_, generalised itself f)) (reached e))
  reached (alphabetised {p = p} {q = q} {v = v} {w = w} {a = a} {b = b} d e) = joined
      (under (λ z. AlphabetisedParallel z a b q) v (AlphabetisedParallel v a b w) (λ p t h. alphabetised_left tt h) (λ j m f. (_, alphabetised f e)) (reached d))
      (under (λ z. AlphabetisedParallel v a b z) w (AlphabetisedParallel v a b w) (λ p t h. alphabetised_right tt h) (λ j m f. (_, alphabetised itself f)) (reached e))
  reached (hidden {v = v} {a = a} d) = under (λ z. Hiding z a) v (Hiding v a) (λ p t h. hiding_tau h) (λ j m f. (_, hidden f)) (reached d)
  reached (renamed {v = v} {rs = rs} d) = under (λ z. Renaming z rs) v (Renaming v rs) (λ p t h. renaming_tau h) (λ j m f. (_, renamed f)) (reached d)
  reached (slid {q = q} {v = v} d) = under (λ z. SlidingChoice z q) v (SlidingChoice v q) (λ p t h. sliding_tau h) (λ j m f. (_, slid f)) (reached d)
