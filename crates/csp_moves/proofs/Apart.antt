-- Processes that are taken apart, put together again.
use Rattle.std.proofs.Common.{◌≡◌, refl, sym, ◌∙◌, ap, Option, Some, None}
use Rattle.std.specs.Prelude.{IsSome}
use Rattle.theory_syntax.specs.Operators.{binary_process}
use Rattle.theory_syntax.specs.Process.{Process, Stop, Skip, Omega, Call, Prefix, Guard, If, ExternalChoice, InternalChoice, Sequential, Interleaving, Interrupt, GeneralisedParallel, AlphabetisedParallel, Hiding, Renaming, ReplicatedExternalChoice, ReplicatedInternalChoice, ReplicatedInterleaving, SlidingChoice}
use Rattle.theory_syntax.specs.declared.process_operator.ProcessOperator.{ProcessOperator}
use Rattle.theory_syntax.specs.declared.process_operator.ProcessOperator.TheVariants as binary
use Rattle.csp_moves.specs.Frames.{OneSided, framed, unframed}
use Rattle.csp_moves.specs.Sides.{TwoSided, joined, taken_apart}

-- ---- two sides

abbrev rejoined : Option (TwoSided × Process × Process) → Process → Process
rejoined (Some (op, l, r)) p = joined op l r
rejoined None p = p

rejoined_same : (p : Process) → p ≡ rejoined (taken_apart p) p
rejoined_same Stop = refl
rejoined_same Skip = refl
rejoined_same Omega = refl
rejoined_same (Call n es) = refl
rejoined_same (Prefix n fs p) = refl
rejoined_same (Guard e p) = refl
rejoined_same (If e p q) = refl
rejoined_same (ExternalChoice p q) = refl
rejoined_same (InternalChoice p q) = refl
rejoined_same (Sequential p q) = refl
rejoined_same (Interleaving p q) = refl
rejoined_same (Interrupt p q) = refl
rejoined_same (GeneralisedParallel p a q) = refl
rejoined_same (AlphabetisedParallel p a b q) = refl
rejoined_same (Hiding p a) = refl
rejoined_same (Renaming p rs) = refl
rejoined_same (ReplicatedExternalChoice n e p) = refl
rejoined_same (ReplicatedInternalChoice n e p) = refl
rejoined_same (ReplicatedInterleaving n e p) = refl
rejoined_same (SlidingChoice p q) = refl

pub joined_again : (p : Process) (op : TwoSided) (l r : Process) → Some (op, l, r) ≡ taken_apart p → p ≡ joined op l r
joined_again p op l r e = rejoined_same p ∙ ap (λ f. rejoined f p) (sym e)

pub binary_apart : (op : ProcessOperator) (p q : Process) → IsSome (taken_apart (binary_process op p q))
binary_apart binary.ExternalChoice p q = refl
binary_apart binary.InternalChoice p q = refl
binary_apart binary.Sequential p q = refl
binary_apart binary.Interleaving p q = refl
binary_apart binary.Interrupt p q = refl

-- ---- one body

abbrev reframed : Option (OneSided × Process) → Process → Process
reframed (Some (op, q)) p = framed op q
reframed None p = p

reframed_same : (p : Process) → p ≡ reframed (unframed p) p
reframed_same Stop = refl
reframed_same Skip = refl
reframed_same Omega = refl
reframed_same (Call n es) = refl
reframed_same (Prefix n fs p) = refl
reframed_same (Guard e p) = refl
reframed_same (If e p q) = refl
reframed_same (ExternalChoice p q) = refl
reframed_same (InternalChoice p q) = refl
reframed_same (Sequential p q) = refl
reframed_same (Interleaving p q) = refl
reframed_same (Interrupt p q) = refl
reframed_same (GeneralisedParallel p a q) = refl
reframed_same (AlphabetisedParallel p a b q) = refl
reframed_same (Hiding p a) = refl
reframed_same (Renaming p rs) = refl
reframed_same (ReplicatedExternalChoice n e p) = refl
reframed_same (ReplicatedInternalChoice n e p) = refl
reframed_same (ReplicatedInterleaving n e p) = refl
reframed_same (SlidingChoice p q) = refl

pub framed_again : (p : Process) (op : OneSided) (q : Process) → Some (op, q) ≡ unframed p → p ≡ framed op q
framed_again p op q e = reframed_same p ∙ ap (λ f. reframed f p) (sym e)
