-- Terms that differ in active calls that are unfolded.
use Rattle.std.specs.Prelude.{◌≡◌, ℕ, suc, ◌+◌, List, IsTrue, Some, Ok}
use Rattle.theory_syntax.specs.Expression.{Expressions}
use Rattle.theory_syntax.specs.Process.{EventSet, RenamingPair, Process, Call, ExternalChoice, Sequential, Interleaving, Interrupt, GeneralisedParallel, AlphabetisedParallel, Hiding, Renaming, SlidingChoice, Script}
use Rattle.theory_semantics.specs.Meaning.Events.{called}
use Rattle.theory_semantics.specs.Meaning.Unfolding.{most_unfoldings, is_no_larger, stands_for}

-- The term becomes the other by k unfoldings of its active calls, at most n in a row. None of them leads to a smaller one.
pub data UnfoldsTo (script : Script) : ℕ → ℕ → Process → Process → Type 0 where
  itself : {n : ℕ} {t : Process} → UnfoldsTo script n 0 t t
  -- a call is unfolded to its body
  body : {n k c : ℕ} {es : Expressions} {t v : Process} → called script c es ≡ Ok t → IsTrue (is_no_larger (Call c es) v) → UnfoldsTo script n k t v → UnfoldsTo script (suc n) (suc k) (Call c es) v
  -- a guard, a condition or a replicated form is unfolded to what the process that it stands for is unfolded to
  seen_through : {n k : ℕ} {p q v : Process} → stands_for script p ≡ Some q → IsTrue (is_no_larger p v) → UnfoldsTo script n (suc k) q v → UnfoldsTo script (suc n) (suc k) p v
  -- the sides of an operator are unfolded
  external : {n j k : ℕ} {p q v w : Process} → UnfoldsTo script n j p v → UnfoldsTo script n k q w → UnfoldsTo script n (j + k) (ExternalChoice p q) (ExternalChoice v w)
  sequential_first : {n k : ℕ} {p q v : Process} → UnfoldsTo script n k p v → UnfoldsTo script n k (Sequential p q) (Sequential v q)
  interleaved : {n j k : ℕ} {p q v w : Process} → UnfoldsTo script n j p v → UnfoldsTo script n k q w → UnfoldsTo script n (j + k) (Interleaving p q) (Interleaving v w)
  interrupted : {n j k : ℕ} {p q v w : Process} → UnfoldsTo script n j p v → UnfoldsTo script n k q w → UnfoldsTo script n (j + k) (Interrupt p q) (Interrupt v w)
  generalised : {n j k : ℕ} {p q v w : Process} {a : EventSet} → UnfoldsTo script n j p v → UnfoldsTo script n k q w →
      UnfoldsTo script n (j + k) (GeneralisedParallel p a q) (GeneralisedParallel v a w)
  alphabetised : {n j k : ℕ} {p q v w : Process} {a b : EventSet} → UnfoldsTo script n j p v → UnfoldsTo script n k q w →
      UnfoldsTo script n (j + k) (AlphabetisedParallel p a b q) (AlphabetisedParallel v a b w)
  hidden : {n k : ℕ} {p v : Process} {a : EventSet} → UnfoldsTo script n k p v → UnfoldsTo script n k (Hiding p a) (Hiding v a)
  renamed : {n k : ℕ} {p v : Process} {rs : List RenamingPair} → UnfoldsTo script n k p v → UnfoldsTo script n k (Renaming p rs) (Renaming v rs)
  slid : {n k : ℕ} {p q v : Process} → UnfoldsTo script n k p v → UnfoldsTo script n k (SlidingChoice p q) (SlidingChoice v q)

-- the term becomes the other where some of its active calls are unfolded, no more in a row than a settled term has
abbrev pub IsUnfoldedTo : Script → Process → Process → Type 0
IsUnfoldedTo script t v = (k : ℕ) × UnfoldsTo script most_unfoldings k t v
