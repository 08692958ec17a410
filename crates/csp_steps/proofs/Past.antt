-- A process is past the limits where a part of it is.
use Rattle.std.proofs.Common.{◌≡◌, ℕ, ◌≤◌, nat_le, false, List, ⊎_elim, arith}
use Rattle.std.proofs.lemmas.Bool.{and_cases, and_left, and_right, leb-false, lt-leb}
use Rattle.theory_syntax.specs.Process.{EventSet, RenamingPair, Process, ExternalChoice, InternalChoice, Sequential, Interleaving, Interrupt, GeneralisedParallel, AlphabetisedParallel, Hiding, Renaming, SlidingChoice}
use Rattle.theory_semantics.specs.Meaning.Limits.{depth, fits, max_depth, max_size, size}

-- what has a process past the limits as a part is past them
abbrev pub StaysPast : (Process → Process) → Type 0
StaysPast under = (p : Process) → fits p ≡ false → fits (under p) ≡ false

-- a measure that is past its limit, and one that is no less
still_past : (m n limit : ℕ) → m ≤ n → nat_le m limit ≡ false → nat_le n limit ≡ false
still_past m n limit grows past = lt-leb n limit (omega (arith, grows, leb-false m limit past))

-- a part counts in the size and in the depth
pub past_with : (part whole : Process) → size part ≤ size whole → depth part ≤ depth whole → fits part ≡ false → fits whole ≡ false
past_with part whole larger deeper past =
    ⊎_elim (λ e. and_left (nat_le (size whole) max_size) (nat_le (depth whole) max_depth) (still_past (size part) (size whole) max_size larger e))
    (λ e. and_right (nat_le (size whole) max_size) (nat_le (depth whole) max_depth) (still_past (depth part) (depth whole) max_depth deeper e)) (and_cases (nat_le (size part) max_size) (nat_le (depth part) max_depth) past)

-- ---- operators of two processes, by the first and by the second

pub external_first : (q : Process) → StaysPast (λ p. ExternalChoice p q)
external_first q p = past_with p (ExternalChoice p q) (omega arith) (omega arith)

pub external_second : (p : Process) → StaysPast (λ q. ExternalChoice p q)
external_second p q = past_with q (ExternalChoice p q) (omega arith) (omega arith)

pub internal_first : (q : Process) → StaysPast (λ p. InternalChoice p q)
internal_first q p = past_with p (InternalChoice p q) (omega arith) (omega arith)

pub internal_second : (p : Process) → StaysPast (λ q. InternalChoice p q)
internal_second p q = past_with q (InternalChoice p q) (omega arith) (omega arith)

pub sequential_first : (q : Process) → StaysPast (λ p. Sequential p q)
sequential_first q p = past_with p (Sequential p q) (omega arith) (omega arith)

pub sequential_second : (p : Process) → StaysPast (λ q. Sequential p q)
sequential_second p q = past_with q (Sequential p q) (omega arith) (omega arith)

pub interleaving_first : (q : Process) → StaysPast (λ p. Interleaving p q)
interleaving_first q p = past_with p (Interleaving p q) (omega arith) (omega arith)

pub interleaving_second : (p : Process) → StaysPast (λ q. Interleaving p q)
interleaving_second p q = past_with q (Interleaving p q) (omega arith) (omega arith)

pub interrupt_first : (q : Process) → StaysPast (λ p. Interrupt p q)
interrupt_first q p = past_with p (Interrupt p q) (omega arith) (omega arith)

pub interrupt_second : (p : Process) → StaysPast (λ q. Interrupt p q)
interrupt_second p q = past_with q (Interrupt p q) (omega arith) (omega arith)

pub sliding_first : (q : Process) → StaysPast (λ p. SlidingChoice p q)
sliding_first q p = past_with p (SlidingChoice p q) (omega arith) (omega arith)

pub sliding_second : (p : Process) → StaysPast (λ q. SlidingChoice p q)
sliding_second p q = past_with q (SlidingChoice p q) (omega arith) (omega arith)

pub generalised_first : (a : EventSet) (q : Process) → StaysPast (λ p. GeneralisedParallel p a q)
generalised_first a q p = past_with p (GeneralisedParallel p a q) (omega arith) (omega arith)

pub generalised_second : (p : Process) (a : EventSet) → StaysPast (λ q. GeneralisedParallel p a q)
generalised_second p a q = past_with q (GeneralisedParallel p a q) (omega arith) (omega arith)

pub alphabetised_first : (a b : EventSet) (q : Process) → StaysPast (λ p. AlphabetisedParallel p a b q)
alphabetised_first a b q p = past_with p (AlphabetisedParallel p a b q) (omega arith) (omega arith)

pub alphabetised_second : (p : Process) (a b : EventSet) → StaysPast (λ q. AlphabetisedParallel p a b q)
alphabetised_second p a b q = past_with q (AlphabetisedParallel p a b q) (omega arith) (omega arith)

-- ---- operators of one process

pub hiding_only : (a : EventSet) → StaysPast (λ p. Hiding p a)
hiding_only a p = past_with p (Hiding p a) (omega arith) (omega arith)

pub renaming_only : (rs : List RenamingPair) → StaysPast (λ p. Renaming p rs)
renaming_only rs p = past_with p (Renaming p rs) (omega arith) (omega arith)
