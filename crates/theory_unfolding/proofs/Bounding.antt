-- No more calls are unfolded than the limits of a term allow.
use Rattle.std.proofs.Common.{ℕ, suc, ◌+◌, ◌*◌, ◌≤◌, arith}
use Rattle.std.proofs.lemmas.Nat.{mul-le}
use Rattle.theory_syntax.specs.Process.{Process, Stop, Script}
use Rattle.theory_semantics.specs.Meaning.Limits.{size}
use Rattle.theory_unfolding.specs.Unfolded.{UnfoldsTo, itself, body, seen_through, external, sequential_first, interleaved, interrupted, generalised, alphabetised, hidden, renamed, slid}

size_pos : (p : Process) → 1 ≤ size p
size_pos Stop = omega arith
size_pos _ = omega arith

two_sides : (n j k a b c : ℕ) → j ≤ n * a → k ≤ n * b → a + b ≤ c → j + k ≤ n * c
two_sides n j k a b c h i sum = let e = mul-le n (a + b) n c (omega arith) sum in omega (arith, h, i, e)

one_side : (n k a c : ℕ) → k ≤ n * a → a ≤ c → k ≤ n * c
one_side n k a c h le = let e = mul-le n a n c (omega arith) le in omega (arith, h, e)

one_more : (n k a : ℕ) → 1 ≤ a → k ≤ n * a → suc k ≤ suc n * a
one_more n k a pos h = omega (arith, pos, h)

as_many : (n k a : ℕ) → k ≤ n * a → k ≤ suc n * a
as_many n k a h = omega (arith, h)

module _ (s : Script) where
  -- at most n at each place of what a term is unfolded to
  pub bounded : {n k : ℕ} {t v : Process} → UnfoldsTo s n k t v → k ≤ n * size v
  bounded itself = omega arith
  bounded (body {n = n} {k = k} {v = v} is smaller d) = one_more n k (size v) (size_pos v) (bounded d)
  bounded (seen_through {n = n} {k = k} {v = v} is smaller d) = as_many n (suc k) (size v) (bounded d)
  bounded (external {n = n} {j = j} {k = k} {v = v} {w = w} d e) = two_sides n j k (size v) (size w) _ (bounded d) (bounded e) (omega arith)
  bounded (sequential_first {n = n} {k = k} {v = v} d) = one_side n k (size v) _ (bounded d) (omega arith)
  bounded (interleaved {n = n} {j = j} {k = k} {v = v} {w = w} d e) = two_sides n j k (size v) (size w) _ (bounded d) (bounded e) (omega arith)
  bounded (interrupted {n = n} {j = j} {k = k} {v = v} {w = w} d e) = two_sides n j k (size v) (size w) _ (bounded d) (bounded e) (omega arith)
  bounded (generalised {n = n} {j = j} {k = k} {v = v} {w = w} d e) = two_sides n j k (size v) (size w) _ (bounded d) (bounded e) (omega arith)
  bounded (alphabetised {n = n} {j = j} {k = k} {v = v} {w = w} d e) = two_sides n j k (size v) (size w) _ (bounded d) (bounded e) (omega arith)
  bounded (hidden {n = n} {k = k} {v = v} d) = one_side n k (size v) _ (bounded d) (omega arith)
  bounded (renamed {n = n} {k = k} {v = v} d) = one_side n k (size v) _ (bounded d) (omega arith)
  bounded (slid {n = n} {k = k} {v = v} d) = one_side n k (size v) _ (bounded d) (omega arith)
