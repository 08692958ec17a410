-- How many calls are unfolded between two terms, and how many in a row.
use Rattle.std.proofs.Common.{◌≡◌, ℕ, zero, suc, ◌+◌, ◌≤◌, refl, ap, ap₂, arith}
use Rattle.theory_syntax.specs.Process.{Process, Omega, ExternalChoice, Sequential, Interleaving, Interrupt, GeneralisedParallel, AlphabetisedParallel, Hiding, Renaming, SlidingChoice, Script}
use Rattle.theory_unfolding.specs.Unfolded.{UnfoldsTo, itself, body, seen_through, external, sequential_first, interleaved, interrupted, generalised, alphabetised, hidden, renamed, slid}

none_of : (j k : ℕ) → j + k ≡ 0 → (j ≡ 0) × (k ≡ 0)
none_of j k e = (omega (arith, e), omega (arith, e))

module _ (s : Script) where
  -- where none is unfolded, the terms are the same
  pub none_unfolded : {n k : ℕ} {t v : Process} → UnfoldsTo s n k t v → k ≡ 0 → t ≡ v
  none_unfolded itself e = refl
  none_unfolded (body is no_larger d) e = absurd (cc e)
  none_unfolded (seen_through is no_larger d) e = absurd (cc e)
  none_unfolded (external {j = j} {k = k} d f) e = ap₂ ExternalChoice (none_unfolded d (none_of j k e).0) (none_unfolded f (none_of j k e).1)
  none_unfolded (sequential_first {q = q} d) e = ap (λ z. Sequential z q) (none_unfolded d e)
  none_unfolded (interleaved {j = j} {k = k} d f) e = ap₂ Interleaving (none_unfolded d (none_of j k e).0) (none_unfolded f (none_of j k e).1)
  none_unfolded (interrupted {j = j} {k = k} d f) e = ap₂ Interrupt (none_unfolded d (none_of j k e).0) (none_unfolded f (none_of j k e).1)
  none_unfolded (generalised {j = j} {k = k} {a = a} d f) e = ap₂ (λ z y. GeneralisedParallel z a y) (none_unfolded d (none_of j k e).0) (none_unfolded f (none_of j k e).1)
  none_unfolded (alphabetised {j = j} {k = k} {a = a} {b = b} d f) e = ap₂ (λ z y. AlphabetisedParallel z a b y) (none_unfolded d (none_of j k e).0) (none_unfolded f (none_of j k e).1)
  none_unfolded (hidden {a = a} d) e = ap (λ z. Hiding z a) (none_unfolded d e)
  none_unfolded (renamed {rs = rs} d) e = ap (λ z. Renaming z rs) (none_unfolded d e)
  none_unfolded (slid {q = q} d) e = ap (λ z. SlidingChoice z q) (none_unfolded d e)

  -- more in a row may be unfolded
  pub raise : (n m : ℕ) → n ≤ m → {k : ℕ} {t v : Process} → UnfoldsTo s n k t v → UnfoldsTo s m k t v
  raise n m most itself = itself
  raise (suc n) zero most (body is no_larger d) = absurd (omega (arith, most))
  raise (suc n) (suc m) most (body is no_larger d) = body is no_larger (raise n m (omega (arith, most)) d)
  raise (suc n) zero most (seen_through is no_larger d) = absurd (omega (arith, most))
  raise (suc n) (suc m) most (seen_through is no_larger d) = seen_through is no_larger (raise n m (omega (arith, most)) d)
  raise n m most (external d e) = external (raise n m most d) (raise n m most e)
  raise n m most (sequential_first d) = sequential_first (raise n m most d)
  raise n m most (interleaved d e) = interleaved (raise n m most d) (raise n m most e)
  raise n m most (interrupted d e) = interrupted (raise n m most d) (raise n m most e)
  raise n m most (generalised d e) = generalised (raise n m most d) (raise n m most e)
  raise n m most (alphabetised d e) = alphabetised (raise n m most d) (raise n m most e)
  raise n m most (hidden d) = hidden (raise n m most d)
  raise n m most (renamed d) = renamed (raise n m most d)
  raise n m most (slid d) = slid (raise n m most d)

  -- the ended process is unfolded to nothing else
  pub ended_stays : {n k : ℕ} (v : Process) → UnfoldsTo s n k Omega v → v ≡ Omega
  ended_stays v itself = refl
  ended_stays v (seen_through is no_larger d) = absurd (cc is)
