-- A term is past the limits where a part of it is.
use Rattle.std.proofs.Common.{◌≡◌, ◌≤◌, ◌⊎◌, inl, inr, List, Bool, true, false, IsTrue, IsFalse, refl, sym, ◌∙◌, arith}
use Rattle.theory_syntax.specs.Process.{EventSet, RenamingPair, Process, ExternalChoice, InternalChoice, Sequential, Interleaving, Interrupt, GeneralisedParallel, AlphabetisedParallel, Hiding, Renaming, SlidingChoice}
use Rattle.theory_syntax.specs.declared.process_operator.ProcessOperator.{ProcessOperator}
use Rattle.theory_syntax.specs.declared.process_operator.ProcessOperator.TheVariants as binary
use Rattle.theory_syntax.specs.Operators.{binary_process}
use Rattle.theory_semantics.specs.Meaning.Limits.{size, depth, fits}
use Rattle.theory_semantics.proofs.Sizes.{fits_part}

pub part_past : (v u : Process) → size v ≤ size u → depth v ≤ depth u → IsFalse (fits v) → IsFalse (fits u)
part_past v u in_size in_depth past = by_fit (fits u) refl
  where
    by_fit : (b : Bool) → fits u ≡ b → IsFalse b
    by_fit true is = absurd (let e = sym past ∙ fits_part v u in_size in_depth is in cc e)
    by_fit false is = refl

one_past : (v w u : Process) → size v ≤ size u → depth v ≤ depth u → size w ≤ size u → depth w ≤ depth u → IsFalse (fits v) ⊎ IsFalse (fits w) → IsFalse (fits u)
one_past v w u s d t e h = elim h [ inl p ↦ part_past v u s d p | inr p ↦ part_past w u t e p ]

pub binary_past : (op : ProcessOperator) (v w : Process) → IsFalse (fits v) ⊎ IsFalse (fits w) → IsFalse (fits (binary_process op v w))
binary_past binary.ExternalChoice v w h = one_past v w (ExternalChoice v w) (omega arith) (omega arith) (omega arith) (omega arith) h
binary_past binary.InternalChoice v w h = one_past v w (InternalChoice v w) (omega arith) (omega arith) (omega arith) (omega arith) h
binary_past binary.Sequential v w h = one_past v w (Sequential v w) (omega arith) (omega arith) (omega arith) (omega arith) h
binary_past binary.Interleaving v w h = one_past v w (Interleaving v w) (omega arith) (omega arith) (omega arith) (omega arith) h
binary_past binary.Interrupt v w h = one_past v w (Interrupt v w) (omega arith) (omega arith) (omega arith) (omega arith) h

pub generalised_past : (a : EventSet) (v w : Process) → IsFalse (fits v) ⊎ IsFalse (fits w) → IsFalse (fits (GeneralisedParallel v a w))
generalised_past a v w h = one_past v w (GeneralisedParallel v a w) (omega arith) (omega arith) (omega arith) (omega arith) h

pub alphabetised_past : (a b : EventSet) (v w : Process) → IsFalse (fits v) ⊎ IsFalse (fits w) → IsFalse (fits (AlphabetisedParallel v a b w))
alphabetised_past a b v w h = one_past v w (AlphabetisedParallel v a b w) (omega arith) (omega arith) (omega arith) (omega arith) h

pub sequence_past : (v q : Process) → IsFalse (fits v) → IsFalse (fits (Sequential v q))
sequence_past v q h = part_past v (Sequential v q) (omega arith) (omega arith) h

pub sliding_past : (v q : Process) → IsFalse (fits v) → IsFalse (fits (SlidingChoice v q))
sliding_past v q h = part_past v (SlidingChoice v q) (omega arith) (omega arith) h

pub hiding_past : (v : Process) (a : EventSet) → IsFalse (fits v) → IsFalse (fits (Hiding v a))
hiding_past v a h = part_past v (Hiding v a) (omega arith) (omega arith) h

pub renaming_past : (v : Process) (rs : List RenamingPair) → IsFalse (fits v) → IsFalse (fits (Renaming v rs))
renaming_past v rs h = part_past v (Renaming v rs) (omega arith) (omega arith) h
