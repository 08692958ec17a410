-- The parts of a process by what of it stands beside other parts.
use Rattle.std.proofs.Common.{◌≡◌, ◌<◌, ◌+◌, ℕ, List, [], ◌∷◌, ◌++◌, refl, arith}
use Rattle.std.specs.Prelude.{⊤}
use Rattle.theory_syntax.specs.Process.{Process, Stop, Skip, Omega, Call, Prefix, Guard, If, ExternalChoice, InternalChoice, Sequential, Interleaving, Interrupt, GeneralisedParallel, AlphabetisedParallel, Hiding, Renaming, ReplicatedExternalChoice, ReplicatedInternalChoice, ReplicatedInterleaving, SlidingChoice, Script}
use Rattle.theory_semantics.specs.Kinds.Scripts.{IsTermOf}
use Rattle.theory_semantics.specs.Meaning.Limits.{size}
use Rattle.theory_origins.specs.Origin.{Left, Right}
use Rattle.theory_origins.specs.Parts.{Placed, placed_on, placed_parts}
use Rattle.counterexample.specs.Waiting.{Standing, Beside, Inside, Alone, standing}

abbrev pub placed_by : Process → Standing → List Placed
placed_by p (Beside l r) = placed_on Left (placed_parts l) ++ placed_on Right (placed_parts r)
placed_by p (Inside b) = placed_parts b
placed_by p Alone = record { way = []; process = p } ∷ []

pub parts_placed : (p : Process) → placed_by p (standing p) ≡ placed_parts p
parts_placed Stop = refl
parts_placed Skip = refl
parts_placed Omega = refl
parts_placed (Call n es) = refl
parts_placed (Prefix c fs p) = refl
parts_placed (Guard e p) = refl
parts_placed (If e p q) = refl
parts_placed (ExternalChoice p q) = refl
parts_placed (InternalChoice p q) = refl
parts_placed (Sequential p q) = refl
parts_placed (Interleaving p q) = refl
parts_placed (Interrupt p q) = refl
parts_placed (GeneralisedParallel p a q) = refl
parts_placed (AlphabetisedParallel p a b q) = refl
parts_placed (Hiding p a) = refl
parts_placed (Renaming p rs) = refl
parts_placed (ReplicatedExternalChoice n e p) = refl
parts_placed (ReplicatedInternalChoice n e p) = refl
parts_placed (ReplicatedInterleaving n e p) = refl
parts_placed (SlidingChoice p q) = refl

-- what stands there is smaller than n
abbrev pub IsSmaller : ℕ → Standing → Type 0
IsSmaller n (Beside l r) = size l + size r < n
IsSmaller n (Inside b) = size b < n
IsSmaller n Alone = ⊤

pub parts_smaller : (p : Process) → IsSmaller (size p) (standing p)
parts_smaller Stop = tt
parts_smaller Skip = tt
parts_smaller Omega = tt
parts_smaller (Call n es) = tt
parts_smaller (Prefix c fs p) = tt
parts_smaller (Guard e p) = tt
parts_smaller (If e p q) = tt
parts_smaller (ExternalChoice p q) = tt
parts_smaller (InternalChoice p q) = tt
parts_smaller (Sequential p q) = tt
parts_smaller (Interleaving p q) = omega arith
parts_smaller (Interrupt p q) = tt
parts_smaller (GeneralisedParallel p a q) = omega arith
parts_smaller (AlphabetisedParallel p a b q) = omega arith
parts_smaller (Hiding p a) = omega arith
parts_smaller (Renaming p rs) = omega arith
parts_smaller (ReplicatedExternalChoice n e p) = tt
parts_smaller (ReplicatedInternalChoice n e p) = tt
parts_smaller (ReplicatedInterleaving n e p) = tt
parts_smaller (SlidingChoice p q) = tt

-- what stands there are terms of the script
abbrev pub AreTerms : Script → Standing → Type 0
AreTerms script (Beside l r) = IsTermOf script l × IsTermOf script r
AreTerms script (Inside b) = IsTermOf script b
AreTerms script Alone = ⊤

pub parts_terms : (script : Script) (p : Process) → IsTermOf script p → AreTerms script (standing p)
parts_terms script Stop is = tt
parts_terms script Skip is = tt
parts_terms script Omega is = tt
parts_terms script (Call n es) is = tt
parts_terms script (Prefix c fs p) is = tt
parts_terms script (Guard e p) is = tt
parts_terms script (If e p q) is = tt
parts_terms script (ExternalChoice p q) is = tt
parts_terms script (InternalChoice p q) is = tt
parts_terms script (Sequential p q) is = tt
parts_terms script (Interleaving p q) is = ((is.0, is.1, is.2.0), (is.0, is.1, is.2.1))
parts_terms script (Interrupt p q) is = tt
parts_terms script (GeneralisedParallel p a q) is = ((is.0, is.1, is.2.0), (is.0, is.1, is.2.2))
parts_terms script (AlphabetisedParallel p a b q) is = ((is.0, is.1, is.2.0), (is.0, is.1, is.2.3))
parts_terms script (Hiding p a) is = (is.0, is.1, is.2.0)
parts_terms script (Renaming p rs) is = (is.0, is.1, is.2.0)
parts_terms script (ReplicatedExternalChoice n e p) is = tt
parts_terms script (ReplicatedInternalChoice n e p) is = tt
parts_terms script (ReplicatedInterleaving n e p) is = tt
parts_terms script (SlidingChoice p q) is = tt
