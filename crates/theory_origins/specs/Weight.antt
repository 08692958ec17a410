-- How much there is of a term to go down: its forms, and those of the evaluated instances of its replicated forms.
use Rattle.std.specs.Prelude.{ℕ, zero, suc, ◌+◌, List, [], ◌∷◌, Result, Ok, Err}
use Rattle.theory_syntax.specs.Value.{Value}
use Rattle.theory_syntax.specs.Process.{Process, Stop, Skip, Omega, Call, Prefix, Guard, If, ExternalChoice, InternalChoice, Sequential, Interleaving, Interrupt, GeneralisedParallel, AlphabetisedParallel, Hiding, Renaming, ReplicatedExternalChoice, ReplicatedInternalChoice, ReplicatedInterleaving, SlidingChoice, Script}
use Rattle.theory_semantics.specs.Meaning.Evaluation.{Cause}
use Rattle.theory_semantics.specs.Meaning.Events.{elements, instances}
use Rattle.theory_semantics.specs.Meaning.Faults.{height}

-- each of the processes, and one more for the operator before it
abbrev pub weights : (Process → ℕ) → List Process → ℕ
weights weigh [] = 0
weights weigh (p ∷ ps) = suc (weigh p) + weights weigh ps

abbrev pub of_elements : Result (List Value) Cause → (List Value → ℕ) → ℕ
of_elements (Ok vs) f = f vs
of_elements (Err c) f = 0

-- the weight of a process whose forms stand at most n deep in one another
abbrev pub weight_within : ℕ → Script → Process → ℕ
weight_within zero s p = 1
weight_within (suc n) s Stop = 1
weight_within (suc n) s Skip = 1
weight_within (suc n) s Omega = 1
weight_within (suc n) s (Call c es) = 1
weight_within (suc n) s (Prefix c fs p) = 1
weight_within (suc n) s (Guard e p) = suc (weight_within n s p)
weight_within (suc n) s (If e p q) = suc (weight_within n s p + weight_within n s q)
weight_within (suc n) s (ExternalChoice p q) = suc (weight_within n s p + weight_within n s q)
weight_within (suc n) s (InternalChoice p q) = suc (weight_within n s p + weight_within n s q)
weight_within (suc n) s (Sequential p q) = suc (weight_within n s p + weight_within n s q)
weight_within (suc n) s (Interleaving p q) = suc (weight_within n s p + weight_within n s q)
weight_within (suc n) s (Interrupt p q) = suc (weight_within n s p + weight_within n s q)
weight_within (suc n) s (GeneralisedParallel p a q) = suc (weight_within n s p + weight_within n s q)
weight_within (suc n) s (AlphabetisedParallel p a b q) = suc (weight_within n s p + weight_within n s q)
weight_within (suc n) s (Hiding p a) = suc (weight_within n s p)
weight_within (suc n) s (Renaming p rs) = suc (weight_within n s p)
weight_within (suc n) s (ReplicatedExternalChoice x e p) = suc (suc (of_elements (elements s.types e) (λ vs. weights (weight_within n s) (instances x p vs))))
weight_within (suc n) s (ReplicatedInternalChoice x e p) = suc (suc (of_elements (elements s.types e) (λ vs. weights (weight_within n s) (instances x p vs))))
weight_within (suc n) s (ReplicatedInterleaving x e p) = suc (suc (of_elements (elements s.types e) (λ vs. weights (weight_within n s) (instances x p vs))))
weight_within (suc n) s (SlidingChoice p q) = suc (weight_within n s p + weight_within n s q)

abbrev pub weight : Script → Process → ℕ
weight s p = weight_within (height p) s p
