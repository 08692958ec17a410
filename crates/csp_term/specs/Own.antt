-- What a process has at its head, without the processes in it.
use Rattle.std.specs.Prelude.{ℕ, ◌+◌, max}
use Rattle.theory_syntax.specs.Process.{Process, Stop, Skip, Omega, Call, Prefix, Guard, If, ExternalChoice, InternalChoice, Sequential, Interleaving, Interrupt, GeneralisedParallel, AlphabetisedParallel, Hiding, Renaming, ReplicatedExternalChoice, ReplicatedInternalChoice, ReplicatedInterleaving, SlidingChoice}
use Rattle.theory_semantics.specs.Meaning.Limits.{event_set_depth, event_set_size, expression_depth, expression_size, expressions_depth, expressions_size, fields_depth, fields_size, pairs_depth, pairs_size}

-- how many nodes that is
abbrev pub own_size : Process → ℕ
own_size Stop = 1
own_size Skip = 1
own_size Omega = 1
own_size (Call n es) = 1 + expressions_size es
own_size (Prefix c fs p) = 1 + fields_size fs
own_size (Guard e p) = 1 + expression_size e
own_size (If e p q) = 1 + expression_size e
own_size (ExternalChoice p q) = 1
own_size (InternalChoice p q) = 1
own_size (Sequential p q) = 1
own_size (Interleaving p q) = 1
own_size (Interrupt p q) = 1
own_size (GeneralisedParallel p a q) = 1 + event_set_size a
own_size (AlphabetisedParallel p a b q) = 1 + (event_set_size a + event_set_size b)
own_size (Hiding p a) = 1 + event_set_size a
own_size (Renaming p rs) = 1 + pairs_size rs
own_size (ReplicatedExternalChoice n e p) = 1 + expression_size e
own_size (ReplicatedInternalChoice n e p) = 1 + expression_size e
own_size (ReplicatedInterleaving n e p) = 1 + expression_size e
own_size (SlidingChoice p q) = 1

-- how deep the deepest part of it is, 0 where it has none
abbrev pub own_depth : Process → ℕ
own_depth Stop = 0
own_depth Skip = 0
own_depth Omega = 0
own_depth (Call n es) = expressions_depth es
own_depth (Prefix c fs p) = fields_depth fs
own_depth (Guard e p) = expression_depth e
own_depth (If e p q) = expression_depth e
own_depth (ExternalChoice p q) = 0
own_depth (InternalChoice p q) = 0
own_depth (Sequential p q) = 0
own_depth (Interleaving p q) = 0
own_depth (Interrupt p q) = 0
own_depth (GeneralisedParallel p a q) = event_set_depth a
own_depth (AlphabetisedParallel p a b q) = max (event_set_depth a) (event_set_depth b)
own_depth (Hiding p a) = event_set_depth a
own_depth (Renaming p rs) = pairs_depth rs
own_depth (ReplicatedExternalChoice n e p) = expression_depth e
own_depth (ReplicatedInternalChoice n e p) = expression_depth e
own_depth (ReplicatedInterleaving n e p) = expression_depth e
own_depth (SlidingChoice p q) = 0
