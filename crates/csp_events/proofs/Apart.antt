-- The orders of the definitions go by places where those differ.
use Rattle.std.proofs.Common.{◌≡◌, refl}
use Rattle.std.specs.Ordering.{nat_cmp}
use Rattle.theory_syntax.specs.Process.{EventSet, Enumeration, Productions, EventUnion, EventIntersection, EventDifference, Process, Stop, Skip, Omega, Call, Prefix, Guard, If, ExternalChoice, InternalChoice, Sequential, Interleaving, Interrupt, GeneralisedParallel, AlphabetisedParallel, Hiding, Renaming, ReplicatedExternalChoice, ReplicatedInternalChoice, ReplicatedInterleaving, SlidingChoice}
use Rattle.theory_syntax.specs.Order.{event_set_cmp, event_set_place, process_cmp, process_place}
use Rattle.csp_expression.proofs.Variants.{Places}

pub event_sets_apart : (a b : EventSet) → ¬ (event_set_place a ≡ event_set_place b) → event_set_cmp a b ≡ nat_cmp (event_set_place a) (event_set_place b)
event_sets_apart (Enumeration es) (Enumeration fs) differ = absurd (differ refl)
event_sets_apart (Productions es) (Productions fs) differ = absurd (differ refl)
event_sets_apart (EventUnion a b) (EventUnion c d) differ = absurd (differ refl)
event_sets_apart (EventIntersection a b) (EventIntersection c d) differ = absurd (differ refl)
event_sets_apart (EventDifference a b) (EventDifference c d) differ = absurd (differ refl)
event_sets_apart _ _ differ = refl

abbrev pub event_sets : Places EventSet
event_sets = record { cmp = event_set_cmp; place = event_set_place; apart = event_sets_apart }

pub processes_apart : (p q : Process) → ¬ (process_place p ≡ process_place q) → process_cmp p q ≡ nat_cmp (process_place p) (process_place q)
processes_apart Stop Stop differ = absurd (differ refl)
processes_apart Skip Skip differ = absurd (differ refl)
processes_apart Omega Omega differ = absurd (differ refl)
processes_apart (Call m es) (Call n fs) differ = absurd (differ refl)
processes_apart (Prefix c fs p) (Prefix d gs q) differ = absurd (differ refl)
processes_apart (Guard e p) (Guard f q) differ = absurd (differ refl)
processes_apart (If e p q) (If f r s) differ = absurd (differ refl)
processes_apart (ExternalChoice p q) (ExternalChoice r s) differ = absurd (differ refl)
processes_apart (InternalChoice p q) (InternalChoice r s) differ = absurd (differ refl)
processes_apart (Sequential p q) (Sequential r s) differ = absurd (differ refl)
processes_apart (Interleaving p q) (Interleaving r s) differ = absurd (differ refl)
processes_apart (Interrupt p q) (Interrupt r s) differ = absurd (differ refl)
processes_apart (GeneralisedParallel p a q) (GeneralisedParallel r b s) differ = absurd (differ refl)
processes_apart (AlphabetisedParallel p a b q) (AlphabetisedParallel r c d s) differ = absurd (differ refl)
processes_apart (Hiding p a) (Hiding q b) differ = absurd (differ refl)
processes_apart (Renaming p rs) (Renaming q ss) differ = absurd (differ refl)
processes_apart (ReplicatedExternalChoice m e p) (ReplicatedExternalChoice n f q) differ = absurd (differ refl)
processes_apart (ReplicatedInternalChoice m e p) (ReplicatedInternalChoice n f q) differ = absurd (differ refl)
processes_apart (ReplicatedInterleaving m e p) (ReplicatedInterleaving n f q) differ = absurd (differ refl)
processes_apart (SlidingChoice p q) (SlidingChoice r s) differ = absurd (differ refl)
processes_apart _ _ differ = refl

abbrev pub processes : Places Process
processes = record { cmp = process_cmp; place = process_place; apart = processes_apart }
