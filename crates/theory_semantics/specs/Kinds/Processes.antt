-- Well-kinded processes.
use Rattle.std.specs.Prelude.{◌≡◌, List, [], ◌∷◌, slice_get, Some, ⊤}
use Rattle.theory_syntax.specs.Process.{Process, Stop, Skip, Omega, Call, Prefix, Guard, If, ExternalChoice, InternalChoice, Sequential, Interleaving, Interrupt, GeneralisedParallel, AlphabetisedParallel, Hiding, Renaming, ReplicatedExternalChoice, ReplicatedInternalChoice, ReplicatedInterleaving, SlidingChoice, Script}
use Rattle.theory_semantics.specs.Kinds.Kind.{Kind, BoolKind, SetKind, Kinds, Scope, Each}
use Rattle.theory_semantics.specs.Kinds.Expressions.{HasKind, HaveKinds}
use Rattle.theory_semantics.specs.Kinds.Events.{FieldsHaveKinds, scope_behind, IsEventSet, IsPair}

-- The process is well-kinded, where the bound names have the kinds of the scope.
abbrev pub IsWellKinded : Script → Kinds → Scope → Process → Type 0
IsWellKinded script kinds scope Stop = ⊤
IsWellKinded script kinds scope Skip = ⊤
IsWellKinded script kinds scope Omega = ⊤
IsWellKinded script kinds scope (Call n es) = (ks : List Kind) × (slice_get kinds.parameters n ≡ Some ks) × HaveKinds script.types kinds scope es ks
IsWellKinded script kinds scope (Prefix c fs p) =
    (ks : List Kind) × (slice_get kinds.channels c ≡ Some ks) × FieldsHaveKinds script.types kinds scope fs ks × IsWellKinded script kinds (scope_behind scope fs ks) p
IsWellKinded script kinds scope (Guard e p) = HasKind script.types kinds scope e BoolKind × IsWellKinded script kinds scope p
IsWellKinded script kinds scope (If e p q) = HasKind script.types kinds scope e BoolKind × IsWellKinded script kinds scope p × IsWellKinded script kinds scope q
IsWellKinded script kinds scope (ExternalChoice p q) = IsWellKinded script kinds scope p × IsWellKinded script kinds scope q
IsWellKinded script kinds scope (InternalChoice p q) = IsWellKinded script kinds scope p × IsWellKinded script kinds scope q
IsWellKinded script kinds scope (Sequential p q) = IsWellKinded script kinds scope p × IsWellKinded script kinds scope q
IsWellKinded script kinds scope (Interleaving p q) = IsWellKinded script kinds scope p × IsWellKinded script kinds scope q
IsWellKinded script kinds scope (Interrupt p q) = IsWellKinded script kinds scope p × IsWellKinded script kinds scope q
IsWellKinded script kinds scope (GeneralisedParallel p a q) = IsWellKinded script kinds scope p × IsEventSet script.types kinds scope a × IsWellKinded script kinds scope q
IsWellKinded script kinds scope (AlphabetisedParallel p a b q) =
    IsWellKinded script kinds scope p × IsEventSet script.types kinds scope a × IsEventSet script.types kinds scope b × IsWellKinded script kinds scope q
IsWellKinded script kinds scope (Hiding p a) = IsWellKinded script kinds scope p × IsEventSet script.types kinds scope a
IsWellKinded script kinds scope (Renaming p rs) = IsWellKinded script kinds scope p × Each (IsPair script kinds scope) rs
IsWellKinded script kinds scope (ReplicatedExternalChoice n e p) = (k : Kind) × HasKind script.types kinds scope e (SetKind k) × IsWellKinded script kinds ((n, k) ∷ scope) p
IsWellKinded script kinds scope (ReplicatedInternalChoice n e p) = (k : Kind) × HasKind script.types kinds scope e (SetKind k) × IsWellKinded script kinds ((n, k) ∷ scope) p
IsWellKinded script kinds scope (ReplicatedInterleaving n e p) = (k : Kind) × HasKind script.types kinds scope e (SetKind k) × IsWellKinded script kinds ((n, k) ∷ scope) p
IsWellKinded script kinds scope (SlidingChoice p q) = IsWellKinded script kinds scope p × IsWellKinded script kinds scope q

-- A closed term: well-kinded with no bound name. So it has no free name.
abbrev pub IsClosedTerm : Script → Kinds → Process → Type 0
IsClosedTerm script kinds t = IsWellKinded script kinds [] t
