-- Kinds do not hang on how names are read.
use Rattle.std.proofs.Common.{List, [], ◌∷◌}
use Rattle.theory_syntax.specs.Process.{Process, Stop, Skip, Omega, Call, Prefix, Guard, If, ExternalChoice, InternalChoice, Sequential, Interleaving, Interrupt, GeneralisedParallel, AlphabetisedParallel, Hiding, Renaming, ReplicatedExternalChoice, ReplicatedInternalChoice, ReplicatedInterleaving, SlidingChoice, Equation, Property, RefinementOf, DeadlockFree, DivergenceFree, Assertion, specification_of, Unfolding, Script}
use Rattle.theory_syntax.specs.Readings.{reading}
use Rattle.std.specs.Prelude.{IfSome}
use Rattle.theory_semantics.specs.Kinds.Kind.{Kind, Kinds, Scope, scope_of, InTurn, Each}
use Rattle.theory_semantics.specs.Kinds.Events.{scope_behind}
use Rattle.theory_semantics.specs.Kinds.Processes.{IsWellKinded, IsClosedTerm}
use Rattle.theory_semantics.specs.Kinds.Scripts.{IsWellKindedEquation, IsWellKindedAssertion, IsWellKindedScript, IsCheckedScript, IsTermOf}

module _ (u : Unfolding) (s : Script) (kinds : Kinds) where
  process_read : (scope : Scope) (p : Process) → IsWellKinded s kinds scope p → IsWellKinded (reading u s) kinds scope p
  process_read scope Stop h = tt
  process_read scope Skip h = tt
  process_read scope Omega h = tt
  process_read scope (Call n es) h = h
  process_read scope (Prefix c fs p) (ks, is, fields, body) = (ks, is, fields, process_read (scope_behind scope fs ks) p body)
  process_read scope (Guard e p) h = (h.0, process_read scope p h.1)
  process_read scope (If e p q) h = (h.0, process_read scope p h.1, process_read scope q h.2)
  process_read scope (ExternalChoice p q) h = (process_read scope p h.0, process_read scope q h.1)
  process_read scope (InternalChoice p q) h = (process_read scope p h.0, process_read scope q h.1)
  process_read scope (Sequential p q) h = (process_read scope p h.0, process_read scope q h.1)
  process_read scope (Interleaving p q) h = (process_read scope p h.0, process_read scope q h.1)
  process_read scope (Interrupt p q) h = (process_read scope p h.0, process_read scope q h.1)
  process_read scope (GeneralisedParallel p a q) h = (process_read scope p h.0, h.1, process_read scope q h.2)
  process_read scope (AlphabetisedParallel p a b q) h = (process_read scope p h.0, h.1, h.2, process_read scope q h.3)
  process_read scope (Hiding p a) h = (process_read scope p h.0, h.1)
  process_read scope (Renaming p rs) h = (process_read scope p h.0, h.1)
  process_read scope (ReplicatedExternalChoice n e p) (k, set, body) = (k, set, process_read ((n, k) ∷ scope) p body)
  process_read scope (ReplicatedInternalChoice n e p) (k, set, body) = (k, set, process_read ((n, k) ∷ scope) p body)
  process_read scope (ReplicatedInterleaving n e p) (k, set, body) = (k, set, process_read ((n, k) ∷ scope) p body)
  process_read scope (SlidingChoice p q) h = (process_read scope p h.0, process_read scope q h.1)

  equations_read : (es : List Equation) (ks : List (List Kind)) → InTurn (IsWellKindedEquation s kinds) es ks → InTurn (IsWellKindedEquation (reading u s) kinds) es ks
  equations_read [] [] h = tt
  equations_read [] (k ∷ ks) h = h
  equations_read (e ∷ es) [] h = h
  equations_read (e ∷ es) (k ∷ ks) h = (record { parameters = h.0.parameters; body = process_read (scope_of e.parameters k) e.body h.0.body }, equations_read es ks h.1)

  specification_read : (p : Property) → IfSome (specification_of p) (IsClosedTerm s kinds) → IfSome (specification_of p) (IsClosedTerm (reading u s) kinds)
  specification_read (RefinementOf model spec) h = process_read [] spec h
  specification_read DeadlockFree h = tt
  specification_read DivergenceFree h = tt

  assertions_read : (xs : List Assertion) → Each (IsWellKindedAssertion s kinds) xs → Each (IsWellKindedAssertion (reading u s) kinds) xs
  assertions_read [] h = tt
  assertions_read (x ∷ xs) h =
      (record { specification = specification_read x.property h.0.specification; implementation = process_read [] x.implementation h.0.implementation }, assertions_read xs h.1)

  script_read : IsWellKindedScript s kinds → IsWellKindedScript (reading u s) kinds
  script_read h = record {
    sets = record { types = h.sets.types; channels = h.sets.channels };
    equations = equations_read s.equations kinds.parameters h.equations;
    assertions = assertions_read s.assertions h.assertions;
  }

module _ (u : Unfolding) (s : Script) where
  pub checked_read : IsCheckedScript s → IsCheckedScript (reading u s)
  checked_read (kinds, h) = (kinds, script_read u s kinds h)

  pub term_read : (t : Process) → IsTermOf s t → IsTermOf (reading u s) t
  term_read t (kinds, h, closed) = (kinds, script_read u s kinds h, process_read u s kinds [] t closed)
