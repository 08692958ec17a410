-- What in a term is to blame that a rule for it lacks a value.
use Rattle.std.specs.Prelude.{ℕ, zero, suc, nat_eq, Bool, true, false, cond, List, [], ◌∷◌, length, slice_get, Option, Some, None, Result, Ok, Err}
use Rattle.std.specs.Option.{option_or}
use Rattle.theory_syntax.specs.Value.{Value}
use Rattle.theory_syntax.specs.Expression.{Expression, expressions_list}
use Rattle.theory_syntax.specs.Process.{Process, Call, Prefix, Guard, If, ExternalChoice, Sequential, Interleaving, Interrupt, GeneralisedParallel, AlphabetisedParallel, Hiding, Renaming, ReplicatedExternalChoice, ReplicatedInternalChoice, ReplicatedInterleaving, SlidingChoice, Equation, Script}
use Rattle.theory_semantics.specs.Meaning.Evaluation.{Cause}
use Rattle.theory_semantics.specs.Meaning.Events.{condition, elements, instances}
use Rattle.theory_semantics.specs.Meaning.Faults.{height}
use Rattle.theory_faults.specs.Culprit.{Culprit, Misfit, NoChoice, first_found}
use Rattle.theory_faults.specs.Events.{event_set_culprit, pair_culprit, prefix_culprit}
use Rattle.theory_faults.specs.Expressions.{condition_culprit, first_culprit, members, members_culprit}

-- there is an equation, with as many parameters as there are arguments
abbrev pub arguments_misfit : ℕ → Option Equation → Option Culprit
arguments_misfit n (Some equation) = cond (nat_eq (length equation.parameters) n) None (Some Misfit)
arguments_misfit n None = Some Misfit

-- an internal choice over no value
abbrev pub no_choice : ℕ → Expression → Result (List Value) Cause → Option Culprit
no_choice x e (Ok []) = Some (NoChoice x e)
no_choice x e r = None

-- what is to blame in the term's own arguments, fields, sets, pairs and conditions, from left to right
abbrev pub own_culprit : Script → Process → Option Culprit
own_culprit script (Call k es) = option_or (first_culprit script.types es) (arguments_misfit (length (expressions_list es)) (slice_get script.equations k))
own_culprit script (Prefix c fs p) = prefix_culprit script c fs
own_culprit script (Guard e p) = condition_culprit script.types e
own_culprit script (If e p q) = condition_culprit script.types e
own_culprit script (GeneralisedParallel p a q) = event_set_culprit script a
own_culprit script (AlphabetisedParallel p a b q) = option_or (event_set_culprit script a) (event_set_culprit script b)
own_culprit script (Hiding p a) = event_set_culprit script a
own_culprit script (Renaming p rs) = first_found (pair_culprit script) rs
own_culprit script (ReplicatedExternalChoice x e p) = members_culprit script.types e
own_culprit script (ReplicatedInternalChoice x e p) = option_or (members_culprit script.types e) (no_choice x e (elements script.types e))
own_culprit script (ReplicatedInterleaving x e p) = members_culprit script.types e
own_culprit script p = None

-- the branch that a condition picks
abbrev pub picked : Result Bool Cause → List Process → List Process → List Process
picked (Ok true) first second = first
picked (Ok false) first second = second
picked (Err c) first second = []

-- an internal choice looks at its one process, and at none of several
abbrev pub only_one : List Process → List Process
only_one (p ∷ []) = p ∷ []
only_one ps = []

-- the processes that a rule for the term looks at, the left one first
abbrev pub looked_at : Script → Process → List Process
looked_at script (Guard e p) = picked (condition script.types e) (p ∷ []) []
looked_at script (If e p q) = picked (condition script.types e) (p ∷ []) (q ∷ [])
looked_at script (ExternalChoice p q) = p ∷ q ∷ []
looked_at script (Sequential p q) = p ∷ []
looked_at script (Interleaving p q) = p ∷ q ∷ []
looked_at script (Interrupt p q) = p ∷ q ∷ []
looked_at script (GeneralisedParallel p a q) = p ∷ q ∷ []
looked_at script (AlphabetisedParallel p a b q) = p ∷ q ∷ []
looked_at script (Hiding p a) = p ∷ []
looked_at script (Renaming p rs) = p ∷ []
looked_at script (ReplicatedExternalChoice x e p) = instances x p (members script.types e)
looked_at script (ReplicatedInternalChoice x e p) = only_one (instances x p (members script.types e))
looked_at script (ReplicatedInterleaving x e p) = instances x p (members script.types e)
looked_at script (SlidingChoice p q) = p ∷ q ∷ []
looked_at script p = []

-- What is to blame in a closed term, looking at processes that stand at most n deep in one another: in its own parts, or
-- else in the processes that the rule looks at.
abbrev pub culprit_within : ℕ → Script → Process → Option Culprit
culprit_within zero script p = None
culprit_within (suc n) script p = option_or (own_culprit script p) (first_found (culprit_within n script) (looked_at script p))

-- so whatever the depth of its parts
abbrev pub culprit_in : Script → Process → Option Culprit
culprit_in script p = culprit_within (height p) script p
