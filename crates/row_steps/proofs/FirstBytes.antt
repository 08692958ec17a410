-- The spelling of a term tells by its first byte whether it is a part.
use Rattle.std.proofs.Common.{◌≡◌, ◌↔◌, ℕ, List, refl, sym, subst}
use Rattle.std.specs.Prelude.{IsTrue}
use Rattle.theory_syntax.specs.Process.{Process, Stop, Skip, Omega, Call, Prefix, Guard, If, ExternalChoice, InternalChoice, Sequential, Interleaving, Interrupt, GeneralisedParallel, AlphabetisedParallel, Hiding, Renaming, ReplicatedExternalChoice, ReplicatedInternalChoice, ReplicatedInterleaving, SlidingChoice}
use Rattle.theory_spelling.specs.Spelling.{spelling}
use Rattle.theory_shapes.specs.Parts.{IsPart}
use Rattle.row_steps.specs.Heads.{begin_a_part}

told : (p : Process) → IsTrue (begin_a_part (spelling p)) ↔ IsPart p
told Stop = (λ _. refl, λ _. refl)
told Skip = (λ _. refl, λ _. refl)
told Omega = (λ _. refl, λ _. refl)
told (Call n es) = (λ _. refl, λ _. refl)
told (Prefix c fs p) = (λ _. refl, λ _. refl)
told (Guard e p) = (λ _. refl, λ _. refl)
told (If e p q) = (λ _. refl, λ _. refl)
told (ExternalChoice p q) = (λ _. refl, λ _. refl)
told (InternalChoice p q) = (λ _. refl, λ _. refl)
told (Sequential p q) = (λ _. refl, λ _. refl)
told (Interleaving p q) = (λ e. absurd (cc e), λ e. absurd (cc e))
told (Interrupt p q) = (λ _. refl, λ _. refl)
told (GeneralisedParallel p a q) = (λ e. absurd (cc e), λ e. absurd (cc e))
told (AlphabetisedParallel p a b q) = (λ e. absurd (cc e), λ e. absurd (cc e))
told (Hiding p a) = (λ e. absurd (cc e), λ e. absurd (cc e))
told (Renaming p rs) = (λ e. absurd (cc e), λ e. absurd (cc e))
told (ReplicatedExternalChoice n e p) = (λ _. refl, λ _. refl)
told (ReplicatedInternalChoice n e p) = (λ _. refl, λ _. refl)
told (ReplicatedInterleaving n e p) = (λ _. refl, λ _. refl)
told (SlidingChoice p q) = (λ _. refl, λ _. refl)

pub told_by_first : (bytes : List ℕ) (p : Process) → bytes ≡ spelling p → IsTrue (begin_a_part bytes) ↔ IsPart p
told_by_first bytes p is = subst (λ (bs : List ℕ). IsTrue (begin_a_part bs) ↔ IsPart p) (sym is) (told p)
