-- Statements of the laws that the definitions obey.
use Rattle.std.specs.Prelude.{◌≡◌, ◌⊎◌, ◌↔◌, List, [], ◌∷◌}
use Rattle.theory_syntax.specs.Value.{Action}
use Rattle.theory_syntax.specs.Process.{Process, Property, specification_of, Assertion, Script}
use Rattle.theory_semantics.specs.Meaning.Transitions.{RuleStep}
use Rattle.theory_semantics.specs.Meaning.Runs.{Run, trace, IsKnown}
use Rattle.theory_semantics.specs.Meaning.Violations.{Evidence, IsEvidence, IsAllowedBy}

-- nothing is lacking at the end of any path of the implementation whose trace is one of the specification, if there is one
abbrev pub AllAllowed : Script → Property → Process → Type 0
AllAllowed script property impl =
    (path : List Action) (t : Process) →
    Run script impl path t → IsKnown script (specification_of property) (trace path) →
    IsAllowedBy script property path t

abbrev pub IsAllowedThroughout : Script → Assertion → Type 0
IsAllowedThroughout script a = AllAllowed script a.property a.implementation

-- nothing at the end of a path is evidence of a violation
abbrev pub HasNoEvidence : Script → Assertion → List Action → Process → Type 0
HasNoEvidence script a path t = (e : Evidence) → ¬ IsEvidence script a.property path t e

-- one of the steps of a list
abbrev pub IsOneOf : List (Action × Process) → Action → Process → Type 0
IsOneOf [] x t = ⊥
IsOneOf (s ∷ ss) x t = ((x ≡ s.0) × (t ≡ s.1)) ⊎ IsOneOf ss x t

-- the rule steps of a term are those of the list, and no others
abbrev pub StepsAre : Script → Process → List (Action × Process) → Type 0
StepsAre script t ss = (x : Action) (u : Process) → RuleStep script t x u ↔ IsOneOf ss x u
