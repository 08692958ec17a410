-- First causes of the parts of a term, for the laws.
use Rattle.std.specs.Prelude.{ℕ, List, [], ◌∷◌, Option}
use Rattle.std.specs.Option.{option_or}
use Rattle.std.specs.Result.{result_err}
use Rattle.theory_syntax.specs.Expression.{Expression}
use Rattle.theory_syntax.specs.Process.{EventSet, Process, Stop, InternalChoice, Script}
use Rattle.theory_semantics.specs.Meaning.Evaluation.{Cause}
use Rattle.theory_semantics.specs.Meaning.Events.{elements, event_test, instances}
use Rattle.theory_semantics.specs.Meaning.Faults.{first_cause, in_instances, in_internal_chain, cause_in}
use Rattle.theory_semantics.specs.Meaning.Transitions.{chain}

-- the first cause of the sets of a parallel operator, else of its left side, else of its right one
abbrev pub parallel_cause : Script → List EventSet → Process → Process → Option Cause
parallel_cause s [] p q = option_or (cause_in s p) (cause_in s q)
parallel_cause s (a ∷ sets) p q = option_or (result_err (event_test s a)) (parallel_cause s sets p q)

-- the cause of the set of a replicated form, else the first one of its instances
abbrev pub parts_cause : Script → ℕ → Expression → Process → Option Cause
parts_cause s x e p = in_instances (elements s.types e) (λ vs. first_cause (cause_in s) (instances x p vs))

-- the same in an internal choice: none is a cause, one is looked at, and of more none is
abbrev pub chain_cause : Script → ℕ → Expression → Process → Option Cause
chain_cause s x e p = in_instances (elements s.types e) (λ vs. in_internal_chain (cause_in s) (instances x p vs))

-- the internal choice of some processes
abbrev pub internal_chain : List Process → Process
internal_chain ps = chain InternalChoice Stop ps
