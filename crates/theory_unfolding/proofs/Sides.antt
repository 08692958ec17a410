-- An operator is settled by settling the sides that it stays with.
use Rattle.std.proofs.Common.{◌≡◌, List, refl, ap}
use Rattle.theory_syntax.specs.Process.{EventSet, RenamingPair, Process, ExternalChoice, Sequential, Interleaving, Interrupt, GeneralisedParallel, AlphabetisedParallel, Hiding, Renaming, SlidingChoice, Unfolding, ByTau, AtOnce, Script}
use Rattle.theory_semantics.specs.Meaning.Unfolding.{settled_by, settled}

pub choice_by : (u : Unfolding) (s : Script) (p q : Process) → settled_by u s (ExternalChoice p q) ≡ ExternalChoice (settled_by u s p) (settled_by u s q)
choice_by ByTau s p q = refl
choice_by AtOnce s p q = refl

pub sequence_by : (u : Unfolding) (s : Script) (p q : Process) → settled_by u s (Sequential p q) ≡ Sequential (settled_by u s p) q
sequence_by ByTau s p q = refl
sequence_by AtOnce s p q = refl

pub interleaving_by : (u : Unfolding) (s : Script) (p q : Process) → settled_by u s (Interleaving p q) ≡ Interleaving (settled_by u s p) (settled_by u s q)
interleaving_by ByTau s p q = refl
interleaving_by AtOnce s p q = refl

pub interrupt_by : (u : Unfolding) (s : Script) (p q : Process) → settled_by u s (Interrupt p q) ≡ Interrupt (settled_by u s p) (settled_by u s q)
interrupt_by ByTau s p q = refl
interrupt_by AtOnce s p q = refl

pub generalised_by : (u : Unfolding) (s : Script) (p q : Process) (a : EventSet) → settled_by u s (GeneralisedParallel p a q) ≡ GeneralisedParallel (settled_by u s p) a (settled_by u s q)
generalised_by ByTau s p q a = refl
generalised_by AtOnce s p q a = refl

pub alphabetised_by : (u : Unfolding) (s : Script) (p q : Process) (a b : EventSet) → settled_by u s (AlphabetisedParallel p a b q) ≡ AlphabetisedParallel (settled_by u s p) a b (settled_by u s q)
alphabetised_by ByTau s p q a b = refl
alphabetised_by AtOnce s p q a b = refl

pub hidden_by : (u : Unfolding) (s : Script) (p : Process) (a : EventSet) → settled_by u s (Hiding p a) ≡ Hiding (settled_by u s p) a
hidden_by ByTau s p a = refl
hidden_by AtOnce s p a = refl

pub renamed_by : (u : Unfolding) (s : Script) (p : Process) (rs : List RenamingPair) → settled_by u s (Renaming p rs) ≡ Renaming (settled_by u s p) rs
renamed_by ByTau s p rs = refl
renamed_by AtOnce s p rs = refl

pub sliding_by : (u : Unfolding) (s : Script) (p q : Process) → settled_by u s (SlidingChoice p q) ≡ SlidingChoice (settled_by u s p) q
sliding_by ByTau s p q = refl
sliding_by AtOnce s p q = refl

pub read_by_tau : (s : Script) (p : Process) → s.unfolds ≡ ByTau → settled s p ≡ p
read_by_tau s p e = ap (λ u. settled_by u s p) e
