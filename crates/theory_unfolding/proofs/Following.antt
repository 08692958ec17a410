-- What a term does by taus of its calls, the term with some of them unfolded does at once: each step is one of its own, or the
-- tau of a call that it has unfolded already.
use Rattle.std.proofs.Common.{◌≡◌, ◌⊎◌, inl, inr, ℕ, suc, ◌+◌, ◌<◌, ◌≤◌, refl, sym, ◌∙◌, subst, ⊎_elim, arith, Result, Ok}
use Rattle.theory_syntax.specs.Value.{Action, Tau, Tick, Ev}
use Rattle.theory_syntax.specs.Process.{Process, Omega, ExternalChoice, Sequential, Interleaving, Interrupt, GeneralisedParallel, AlphabetisedParallel, Hiding, Renaming, SlidingChoice, ByTau, AtOnce, Script}
use Rattle.theory_semantics.specs.Meaning.Evaluation.{Cause}
use Rattle.theory_semantics.specs.Meaning.Unfolding.{most_unfoldings, settled}
use Rattle.theory_semantics.specs.Meaning.Transitions.{IsVisible, RuleStep, call, external_tau_left, external_tau_right, external_left, external_right, sequential, sequential_tick, interleaving_left, interleaving_right, interleaving_tick_left, interleaving_tick_right, interleaving_tick, interrupt_left, interrupt_tick, interrupt_tau_right, interrupt_right, generalised_left, generalised_right, generalised_both, generalised_tick_left, generalised_tick_right, generalised_tick, alphabetised_left, alphabetised_right, alphabetised_both, alphabetised_tick_left, alphabetised_tick_right, alphabetised_tick, hiding_tau, hiding_hidden, hiding_event, hiding_tick, renaming_tau, renaming_event, renaming_tick, sliding_tau, sliding_left, sliding_away}
use Rattle.theory_syntax.specs.Readings.{by_tau, at_once}
use Rattle.theory_unfolding.specs.Unfolded.{UnfoldsTo, itself, body, seen_through, external, sequential_first, interleaved, interrupted, generalised, alphabetised, hidden, renamed, slid, IsUnfoldedTo}
use Rattle.theory_unfolding.proofs.Counting.{raise, ended_stays}
use Rattle.theory_unfolding.proofs.Settled.{settled_unfolded}
use Rattle.theory_unfolding.proofs.Standing.{stand_step}
use Rattle.theory_unfolding.proofs.Converting.{IsKept, same_true, same_false, same_outside, same_within_only, same_image, converted}

pub unfolds_kept : (s : Script) → IsKept (IsUnfoldedTo s)
unfolds_kept s = record {
  same = λ p. (0, itself);
  externals = λ p q v w d e. (_, external d.1 e.1);
  sequentials = λ p q v d. (_, sequential_first d.1);
  interleavings = λ p q v w d e. (_, interleaved d.1 e.1);
  interrupts = λ p q v w d e. (_, interrupted d.1 e.1);
  generaliseds = λ p q v w a d e. (_, generalised d.1 e.1);
  alphabetiseds = λ p q v w a b d e. (_, alphabetised d.1 e.1);
  hidings = λ p v a d. (_, hidden d.1);
  renamings = λ p v rs d. (_, renamed d.1);
  slides = λ p q v d. (_, slid d.1);
}

-- The step x to w of a term of which v has k calls unfolded: a tau after which fewer are, or a step of v.
abbrev pub Follows : Script → ℕ → ℕ → Process → Action → Process → Type 0
Follows s n k v x w = ((x ≡ Tau) × (j : ℕ) × (j < k) × UnfoldsTo s n j w v) ⊎ ((u : Process) × RuleStep (at_once s) v x u × IsUnfoldedTo s w u)

same_body : {t u : Process} → {r : Result Process Cause} → r ≡ Ok t → r ≡ Ok u → t ≡ u
same_body e f = cc (sym e ∙ f)

module _ (s : Script) (n : ℕ) (most : n ≤ most_unfoldings) where
  -- an event or tick is a step of v
  acts : {k : ℕ} {v : Process} {x : Action} {w : Process} → IsVisible x → Follows s n k v x w → (u : Process) × RuleStep (at_once s) v x u × IsUnfoldedTo s w u
  acts visible (inl h) = absurd (subst IsVisible h.0 visible)
  acts visible (inr h) = h

  -- a side that moves alone, under an operator
  alone : (of_by of_at : Process → Process) (all : ℕ → ℕ) →
      ((m : ℕ) → n ≤ m → (i : ℕ) (w u : Process) → UnfoldsTo s m i w u → UnfoldsTo s m (all i) (of_by w) (of_at u)) →
      {k : ℕ} → ((i : ℕ) → i < k → all i < all k) →
      {v : Process} {x : Action} {w : Process} → ((u : Process) → RuleStep (at_once s) v x u → RuleStep (at_once s) (of_at v) x (of_at u)) →
      Follows s n k v x w → Follows s n (all k) (of_at v) x (of_by w)
  alone of_by of_at all under less {v = v} {w = w} rule (inl h) = inl (h.0, all h.1, less h.1 h.2, under n (omega arith) h.1 w v h.3)
  alone of_by of_at all under less {v = v} {w = w} rule (inr h) = inr (of_at h.0, rule h.0 h.1, (all h.2.0, under most_unfoldings most h.2.0 w h.0 h.2.1))

  -- the same with one more in a row
  higher : {k : ℕ} {v : Process} {x : Action} {w : Process} → Follows s n k v x w → Follows s (suc n) k v x w
  higher (inl h) = inl (h.0, h.1, h.2, raise s n (suc n) (omega arith) h.3)
  higher (inr h) = inr h

  -- what is unfolded already
  unfolded_already : {k : ℕ} {v t b : Process} → t ≡ b → UnfoldsTo s n k t v → UnfoldsTo s (suc n) k b v
  unfolded_already {k} {v} same d = let P : Process → Type 0 = λ z. UnfoldsTo s (suc n) k z v in subst P same (raise s n (suc n) (omega arith) d)

  -- in a settled term
  most_of : {k : ℕ} {t v : Process} → UnfoldsTo s n k t v → IsUnfoldedTo s t v
  most_of {k} d = (k, raise s n most_unfoldings most d)

module _ (s : Script) where
  pub followed : (n : ℕ) → n ≤ most_unfoldings → (t v : Process) {k : ℕ} → UnfoldsTo s n k t v → (x : Action) (w : Process) → RuleStep (by_tau s) t x w → Follows s n k v x w
  followed n most t v itself x w h = let k = converted s ByTau AtOnce (IsUnfoldedTo s) (unfolds_kept s) (settled_unfolded s) t x w h in inr (k.0, k.1, k.2)
  followed (suc n) most _ v (body {k = k} is no_larger d) x w (call also) = inl (refl, k, omega arith, unfolded_already s n (omega (arith, most)) (same_body is also) d)
  followed (suc n) most t v (seen_through {q = q} is no_larger d) x w h =
      higher s n (omega (arith, most)) (followed n (omega (arith, most)) q v d x w (stand_step s t q x w is h))
  -- external choice
  followed n most _ _ (external {j = j} {k = k} {p = p} {q = q} {v = v} {w = z} d e) x w (external_tau_left {t = t} h) =
      alone s n most (λ u. ExternalChoice u q) (λ u. ExternalChoice u z) (λ i. i + k) (λ m l i w u f. external f (raise s n m l e)) (λ i lt. omega (arith, lt)) (λ u g. external_tau_left g)
      (followed n most p v d Tau t h)
  followed n most _ _ (external {j = j} {k = k} {p = p} {q = q} {v = v} {w = z} d e) x w (external_tau_right {t = t} h) =
      alone s n most (λ u. ExternalChoice p u) (λ u. ExternalChoice v u) (λ i. j + i) (λ m l i w u f. external (raise s n m l d) f) (λ i lt. omega (arith, lt)) (λ u g. external_tau_right g)
      (followed n most q z e Tau t h)
  followed n most _ _ (external {j = j} {k = k} {p = p} {q = q} {v = v} {w = z} d e) x w (external_left y h) = let k = acts s n most y (followed n most p v d x w h) in inr (k.0, external_left y k.1, k.2)
  followed n most _ _ (external {j = j} {k = k} {p = p} {q = q} {v = v} {w = z} d e) x w (external_right y h) = let k = acts s n most y (followed n most q z e x w h) in inr (k.0, external_right y k.1, k.2)
  -- sequence
  followed n most _ _ (sequential_first {k = k} {p = p} {q = q} {v = v} d) x w (sequential {t = t} y h) =
      alone s n most (λ u. Sequential u q) (λ u. Sequential u q) (λ i. i) (λ m l i w u f. sequential_first f) (λ i lt. lt) (λ u g. sequential y g)
      (followed n most p v d x t h)
  followed n most _ _ (sequential_first {k = k} {p = p} {q = q} {v = v} d) x w (sequential_tick {t = t} h) =
      let k = acts s n most tt (followed n most p v d Tick t h) in inr (settled (at_once s) q, sequential_tick k.1, settled_unfolded s q)
  -- interleaving
  followed n most _ _ (interleaved {j = j} {k = k} {p = p} {q = q} {v = v} {w = z} d e) x w (interleaving_left {t = t} y h) =
      alone s n most (λ u. Interleaving u q) (λ u. Interleaving u z) (λ i. i + k) (λ m l i w u f. interleaved f (raise s n m l e)) (λ i lt. omega (arith, lt)) (λ u g. interleaving_left y g)
      (followed n most p v d x t h)
  followed n most _ _ (interleaved {j = j} {k = k} {p = p} {q = q} {v = v} {w = z} d e) x w (interleaving_right {t = t} y h) =
      alone s n most (λ u. Interleaving p u) (λ u. Interleaving v u) (λ i. j + i) (λ m l i w u f. interleaved (raise s n m l d) f) (λ i lt. omega (arith, lt)) (λ u g. interleaving_right y g)
      (followed n most q z e x t h)
  followed n most _ _ (interleaved {j = j} {k = k} {p = p} {q = q} {v = v} {w = z} d e) x w (interleaving_tick_left {t = t} h) =
      let k = acts s n most tt (followed n most p v d Tick t h) in let o = most_of s n most e in inr (Interleaving Omega z, interleaving_tick_left k.1, (_, interleaved itself o.1))
  followed n most _ _ (interleaved {j = j} {k = k} {p = p} {q = q} {v = v} {w = z} d e) x w (interleaving_tick_right {t = t} h) =
      let k = acts s n most tt (followed n most q z e Tick t h) in let o = most_of s n most d in inr (Interleaving v Omega, interleaving_tick_right k.1, (_, interleaved o.1 itself))
  followed n most _ _ (interleaved {v = v} {w = z} d e) x w interleaving_tick =
      let P : Process → Type 0 = λ y. RuleStep (at_once s) (Interleaving y z) Tick Omega in let Q : Process → Type 0 = λ y. RuleStep (at_once s) (Interleaving Omega y) Tick Omega in
      inr (Omega, subst P (sym (ended_stays s v d)) (subst Q (sym (ended_stays s z e)) interleaving_tick), (0, itself))
  -- interrupt
  followed n most _ _ (interrupted {j = j} {k = k} {p = p} {q = q} {v = v} {w = z} d e) x w (interrupt_left {t = t} y h) =
      alone s n most (λ u. Interrupt u q) (λ u. Interrupt u z) (λ i. i + k) (λ m l i w u f. interrupted f (raise s n m l e)) (λ i lt. omega (arith, lt)) (λ u g. interrupt_left y g)
      (followed n most p v d x t h)
  followed n most _ _ (interrupted {j = j} {k = k} {p = p} {q = q} {v = v} {w = z} d e) x w (interrupt_tick {t = t} h) = let k = acts s n most tt (followed n most p v d Tick t h) in inr (Omega, interrupt_tick k.1, (0, itself))
  followed n most _ _ (interrupted {j = j} {k = k} {p = p} {q = q} {v = v} {w = z} d e) x w (interrupt_tau_right {t = t} h) =
      alone s n most (λ u. Interrupt p u) (λ u. Interrupt v u) (λ i. j + i) (λ m l i w u f. interrupted (raise s n m l d) f) (λ i lt. omega (arith, lt)) (λ u g. interrupt_tau_right g)
      (followed n most q z e Tau t h)
  followed n most _ _ (interrupted {j = j} {k = k} {p = p} {q = q} {v = v} {w = z} d e) x w (interrupt_right y h) = let k = acts s n most y (followed n most q z e x w h) in inr (k.0, interrupt_right y k.1, k.2)
  -- generalised parallel
  followed n most _ _ (generalised {j = j} {k = k} {p = p} {q = q} {v = v} {w = z} {a = a} d e) x w (generalised_left {t = t} y h) =
      alone s n most (λ u. GeneralisedParallel u a q) (λ u. GeneralisedParallel u a z) (λ i. i + k) (λ m l i w u f. generalised f (raise s n m l e)) (λ i lt. omega (arith, lt)) (λ u g. generalised_left (same_outside s ByTau AtOnce a x y) g)
      (followed n most p v d x t h)
  followed n most _ _ (generalised {j = j} {k = k} {p = p} {q = q} {v = v} {w = z} {a = a} d e) x w (generalised_right {t = t} y h) =
      alone s n most (λ u. GeneralisedParallel p a u) (λ u. GeneralisedParallel v a u) (λ i. j + i) (λ m l i w u f. generalised (raise s n m l d) f) (λ i lt. omega (arith, lt)) (λ u g. generalised_right (same_outside s ByTau AtOnce a x y) g)
      (followed n most q z e x t h)
  followed n most _ _ (generalised {j = j} {k = k} {p = p} {q = q} {v = v} {w = z} {a = a} d e) x w (generalised_both {t = t} {u = u} {e = f} y g h) =
      let j = acts s n most tt (followed n most p v d (Ev f) t g) in let k = acts s n most tt (followed n most q z e (Ev f) u h) in
      inr (GeneralisedParallel j.0 a k.0, generalised_both (same_true s ByTau AtOnce a f y) j.1 k.1, (_, generalised j.2.1 k.2.1))
  followed n most _ _ (generalised {j = j} {k = k} {p = p} {q = q} {v = v} {w = z} {a = a} d e) x w (generalised_tick_left {t = t} h) =
      let k = acts s n most tt (followed n most p v d Tick t h) in let o = most_of s n most e in inr (GeneralisedParallel Omega a z, generalised_tick_left k.1, (_, generalised itself o.1))
  followed n most _ _ (generalised {j = j} {k = k} {p = p} {q = q} {v = v} {w = z} {a = a} d e) x w (generalised_tick_right {t = t} h) =
      let k = acts s n most tt (followed n most q z e Tick t h) in let o = most_of s n most d in inr (GeneralisedParallel v a Omega, generalised_tick_right k.1, (_, generalised o.1 itself))
  followed n most _ _ (generalised {v = v} {w = z} {a = a} d e) x w generalised_tick =
      let P : Process → Type 0 = λ y. RuleStep (at_once s) (GeneralisedParallel y a z) Tick Omega in let Q : Process → Type 0 = λ y. RuleStep (at_once s) (GeneralisedParallel Omega a y) Tick Omega in
      inr (Omega, subst P (sym (ended_stays s v d)) (subst Q (sym (ended_stays s z e)) generalised_tick), (0, itself))
  -- alphabetised parallel
  followed n most _ _ (alphabetised {j = j} {k = k} {p = p} {q = q} {v = v} {w = z} {a = a} {b = b} d e) x w (alphabetised_left {t = t} y h) =
      alone s n most (λ u. AlphabetisedParallel u a b q) (λ u. AlphabetisedParallel u a b z) (λ i. i + k) (λ m l i w u f. alphabetised f (raise s n m l e)) (λ i lt. omega (arith, lt)) (λ u g. alphabetised_left (same_within_only s ByTau AtOnce a b x y) g)
      (followed n most p v d x t h)
  followed n most _ _ (alphabetised {j = j} {k = k} {p = p} {q = q} {v = v} {w = z} {a = a} {b = b} d e) x w (alphabetised_right {t = t} y h) =
      alone s n most (λ u. AlphabetisedParallel p a b u) (λ u. AlphabetisedParallel v a b u) (λ i. j + i) (λ m l i w u f. alphabetised (raise s n m l d) f) (λ i lt. omega (arith, lt)) (λ u g. alphabetised_right (same_within_only s ByTau AtOnce b a x y) g)
      (followed n most q z e x t h)
  followed n most _ _ (alphabetised {j = j} {k = k} {p = p} {q = q} {v = v} {w = z} {a = a} {b = b} d e) x w (alphabetised_both {t = t} {u = u} {e = f} y o g h) =
      let j = acts s n most tt (followed n most p v d (Ev f) t g) in let k = acts s n most tt (followed n most q z e (Ev f) u h) in
      inr (AlphabetisedParallel j.0 a b k.0, alphabetised_both (same_true s ByTau AtOnce a f y) (same_true s ByTau AtOnce b f o) j.1 k.1, (_, alphabetised j.2.1 k.2.1))
  followed n most _ _ (alphabetised {j = j} {k = k} {p = p} {q = q} {v = v} {w = z} {a = a} {b = b} d e) x w (alphabetised_tick_left {t = t} h) =
      let k = acts s n most tt (followed n most p v d Tick t h) in let o = most_of s n most e in inr (AlphabetisedParallel Omega a b z, alphabetised_tick_left k.1, (_, alphabetised itself o.1))
  followed n most _ _ (alphabetised {j = j} {k = k} {p = p} {q = q} {v = v} {w = z} {a = a} {b = b} d e) x w (alphabetised_tick_right {t = t} h) =
      let k = acts s n most tt (followed n most q z e Tick t h) in let o = most_of s n most d in inr (AlphabetisedParallel v a b Omega, alphabetised_tick_right k.1, (_, alphabetised o.1 itself))
  followed n most _ _ (alphabetised {v = v} {w = z} {a = a} {b = b} d e) x w alphabetised_tick =
      let P : Process → Type 0 = λ y. RuleStep (at_once s) (AlphabetisedParallel y a b z) Tick Omega in let Q : Process → Type 0 = λ y. RuleStep (at_once s) (AlphabetisedParallel Omega a b y) Tick Omega in
      inr (Omega, subst P (sym (ended_stays s v d)) (subst Q (sym (ended_stays s z e)) alphabetised_tick), (0, itself))
  -- hiding
  followed n most _ _ (hidden {k = k} {p = p} {v = v} {a = a} d) x w (hiding_tau {t = t} h) =
      alone s n most (λ u. Hiding u a) (λ u. Hiding u a) (λ i. i) (λ m l i w u f. hidden f) (λ i lt. lt) (λ u g. hiding_tau g)
      (followed n most p v d Tau t h)
  followed n most _ _ (hidden {k = k} {p = p} {v = v} {a = a} d) x w (hiding_hidden {t = t} {e = f} y h) =
      let k = acts s n most tt (followed n most p v d (Ev f) t h) in inr (Hiding k.0 a, hiding_hidden (same_true s ByTau AtOnce a f y) k.1, (_, hidden k.2.1))
  followed n most _ _ (hidden {k = k} {p = p} {v = v} {a = a} d) x w (hiding_event {t = t} {e = f} y h) =
      let k = acts s n most tt (followed n most p v d (Ev f) t h) in inr (Hiding k.0 a, hiding_event (same_false s ByTau AtOnce a f y) k.1, (_, hidden k.2.1))
  followed n most _ _ (hidden {k = k} {p = p} {v = v} {a = a} d) x w (hiding_tick {t = t} h) = let k = acts s n most tt (followed n most p v d Tick t h) in inr (Omega, hiding_tick k.1, (0, itself))
  -- renaming
  followed n most _ _ (renamed {k = k} {p = p} {v = v} {rs = rs} d) x w (renaming_tau {t = t} h) =
      alone s n most (λ u. Renaming u rs) (λ u. Renaming u rs) (λ i. i) (λ m l i w u f. renamed f) (λ i lt. lt) (λ u g. renaming_tau g)
      (followed n most p v d Tau t h)
  followed n most _ _ (renamed {k = k} {p = p} {v = v} {rs = rs} d) x w (renaming_event {t = t} {e = f} {f = g} y h) =
      let k = acts s n most tt (followed n most p v d (Ev f) t h) in inr (Renaming k.0 rs, renaming_event (same_image s ByTau AtOnce rs f g y) k.1, (_, renamed k.2.1))
  followed n most _ _ (renamed {k = k} {p = p} {v = v} {rs = rs} d) x w (renaming_tick {t = t} h) = let k = acts s n most tt (followed n most p v d Tick t h) in inr (Omega, renaming_tick k.1, (0, itself))
  -- sliding choice
  followed n most _ _ (slid {k = k} {p = p} {q = q} {v = v} d) x w (sliding_tau {t = t} h) =
      alone s n most (λ u. SlidingChoice u q) (λ u. SlidingChoice u q) (λ i. i) (λ m l i w u f. slid f) (λ i lt. lt) (λ u g. sliding_tau g)
      (followed n most p v d Tau t h)
  followed n most _ _ (slid {k = k} {p = p} {q = q} {v = v} d) x w (sliding_left y h) = let k = acts s n most y (followed n most p v d x w h) in inr (k.0, sliding_left y k.1, k.2)
  followed n most _ _ (slid {k = k} {p = p} {q = q} {v = v} d) x w sliding_away = inr (settled (at_once s) q, sliding_away, settled_unfolded s q)

  pub followed_by : (t v : Process) (x : Action) (w : Process) → IsUnfoldedTo s t v → RuleStep (by_tau s) t x w →
      ((x ≡ Tau) × IsUnfoldedTo s w v) ⊎ ((u : Process) × RuleStep (at_once s) v x u × IsUnfoldedTo s w u)
  followed_by t v x w d h = ⊎_elim (λ k. inl (k.0, (k.1, k.3))) (λ k. inr k) (followed most_unfoldings (omega arith) t v d.1 x w h)
