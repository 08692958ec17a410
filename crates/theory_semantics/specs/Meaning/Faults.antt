-- The first cause for which a rule has no value.
use Rattle.std.specs.Prelude.{ℕ, zero, suc, max, Bool, true, false, List, [], ◌∷◌, Option, Some, None, Result, Ok, Err}
use Rattle.std.specs.Option.{option_or}
use Rattle.std.specs.Result.{result_err}
use Rattle.theory_syntax.specs.Value.{Value}
use Rattle.theory_semantics.specs.Meaning.Evaluation.{Cause, EmptyChoice}
use Rattle.theory_syntax.specs.Process.{Process, Stop, Skip, Omega, Call, Prefix, Guard, If, ExternalChoice, InternalChoice, Sequential, Interleaving, Interrupt, GeneralisedParallel, AlphabetisedParallel, Hiding, Renaming, ReplicatedExternalChoice, ReplicatedInternalChoice, ReplicatedInterleaving, SlidingChoice, Script}
use Rattle.theory_semantics.specs.Meaning.Events.{condition, elements, prefix_communications, event_test, renaming, called, instances}

-- How many process forms stand in one another, at most. Putting values in does not change it.
abbrev pub height : Process → ℕ
height Stop = 1
height Skip = 1
height Omega = 1
height (Call n es) = 1
height (Prefix c fs p) = suc (height p)
height (Guard e p) = suc (height p)
height (If e p q) = suc (max (height p) (height q))
height (ExternalChoice p q) = suc (max (height p) (height q))
height (InternalChoice p q) = suc (max (height p) (height q))
height (Sequential p q) = suc (max (height p) (height q))
height (Interleaving p q) = suc (max (height p) (height q))
height (Interrupt p q) = suc (max (height p) (height q))
height (GeneralisedParallel p a q) = suc (max (height p) (height q))
height (AlphabetisedParallel p a b q) = suc (max (height p) (height q))
height (Hiding p a) = suc (height p)
height (Renaming p rs) = suc (height p)
height (ReplicatedExternalChoice n e p) = suc (height p)
height (ReplicatedInternalChoice n e p) = suc (height p)
height (ReplicatedInterleaving n e p) = suc (height p)
height (SlidingChoice p q) = suc (max (height p) (height q))

-- what is found in the branch that a condition picks
abbrev pub in_branch : Result Bool Cause → Option Cause → Option Cause → Option Cause
in_branch (Ok true) first second = first
in_branch (Ok false) first second = second
in_branch (Err c) first second = Some c

-- the first cause among processes, from left to right
abbrev pub first_cause : (Process → Option Cause) → List Process → Option Cause
first_cause look [] = None
first_cause look (p ∷ ps) = option_or (look p) (first_cause look ps)

-- what is found in the instances of a replicated form, once its set is known
abbrev pub in_instances : Result (List Value) Cause → (List Value → Option Cause) → Option Cause
in_instances (Ok vs) look = look vs
in_instances (Err c) look = Some c

-- the chain of an internal choice: none is a cause, one is looked at, and of more none is
abbrev pub in_internal_chain : (Process → Option Cause) → List Process → Option Cause
in_internal_chain look [] = Some EmptyChoice
in_internal_chain look (p ∷ []) = look p
in_internal_chain look (p ∷ q ∷ qs) = None

-- The first cause that a rule for a closed term meets, if any, looking at processes that stand at most n deep in one another.
-- First arguments, fields, sets, pairs and conditions from left to right, then the processes that the rule looks at, the left one first.
abbrev pub cause_within : ℕ → Script → Process → Option Cause
cause_within zero script p = None
cause_within (suc n) script Stop = None
cause_within (suc n) script Skip = None
cause_within (suc n) script Omega = None
cause_within (suc n) script (Call k es) = result_err (called script k es)
cause_within (suc n) script (Prefix c fs p) = result_err (prefix_communications script c fs)
cause_within (suc n) script (Guard e p) = in_branch (condition script.types e) (cause_within n script p) None
cause_within (suc n) script (If e p q) = in_branch (condition script.types e) (cause_within n script p) (cause_within n script q)
cause_within (suc n) script (ExternalChoice p q) = option_or (cause_within n script p) (cause_within n script q)
cause_within (suc n) script (InternalChoice p q) = None
cause_within (suc n) script (Sequential p q) = cause_within n script p
cause_within (suc n) script (Interleaving p q) = option_or (cause_within n script p) (cause_within n script q)
cause_within (suc n) script (Interrupt p q) = option_or (cause_within n script p) (cause_within n script q)
cause_within (suc n) script (GeneralisedParallel p a q) = option_or (result_err (event_test script a)) (option_or (cause_within n script p) (cause_within n script q))
cause_within (suc n) script (AlphabetisedParallel p a b q) =
    option_or (result_err (event_test script a)) (option_or (result_err (event_test script b)) (option_or (cause_within n script p) (cause_within n script q)))
cause_within (suc n) script (Hiding p a) = option_or (result_err (event_test script a)) (cause_within n script p)
cause_within (suc n) script (Renaming p rs) = option_or (result_err (renaming script rs)) (cause_within n script p)
cause_within (suc n) script (ReplicatedExternalChoice x e p) = in_instances (elements script.types e) (λ vs. first_cause (cause_within n script) (instances x p vs))
cause_within (suc n) script (ReplicatedInternalChoice x e p) = in_instances (elements script.types e) (λ vs. in_internal_chain (cause_within n script) (instances x p vs))
cause_within (suc n) script (ReplicatedInterleaving x e p) = in_instances (elements script.types e) (λ vs. first_cause (cause_within n script) (instances x p vs))
cause_within (suc n) script (SlidingChoice p q) = option_or (cause_within n script p) (cause_within n script q)

-- The first cause that a rule for the term meets, whatever the size and depth of its parts.
abbrev pub cause_in : Script → Process → Option Cause
cause_in script p = cause_within (height p) script p
