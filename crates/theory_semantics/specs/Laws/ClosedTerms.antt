-- Closed terms, for the laws: what leads to them, and what they do.
use Rattle.std.specs.Prelude.{◌≡◌, ◌≢◌, ◌⊎◌, ℕ, List, [], ◌∷◌, Some, IfSome, Ok, slice_get}
use Rattle.theory_syntax.specs.Value.{Value, Action}
use Rattle.theory_syntax.specs.Expression.{Expression, Expressions}
use Rattle.theory_syntax.specs.Process.{Field, Process, Prefix, specification_of, Assertion, Script}
use Rattle.theory_semantics.specs.Meaning.Evaluation.{Cause, IllKinded}
use Rattle.theory_semantics.specs.Meaning.Substitution.{put}
use Rattle.theory_semantics.specs.Meaning.Events.{Communication, elements, prefix_communications, called, instances}
use Rattle.theory_semantics.specs.Meaning.Faults.{cause_in}
use Rattle.theory_semantics.specs.Meaning.Unfolding.{settled}
use Rattle.theory_semantics.specs.Meaning.Transitions.{RuleStep, IsFaulty, IsLarge, IsNotStuck}
use Rattle.theory_semantics.specs.Meaning.Runs.{Run, SomeReachable}
use Rattle.theory_semantics.specs.Kinds.Kind.{Kind, SetKind, Kinds, Each}
use Rattle.theory_semantics.specs.Kinds.Expressions.{HasKind, HaveKinds}
use Rattle.theory_semantics.specs.Kinds.Processes.{IsWellKinded, IsClosedTerm}
use Rattle.theory_semantics.specs.Kinds.Scripts.{IsTermOf}

-- ---- the parts of a term

-- the body of a call with its arguments is a closed term
abbrev pub BodiesAreClosed : Script → Kinds → Type 0
BodiesAreClosed script kinds =
    (n : ℕ) (es : Expressions) (ks : List Kind) (t : Process) →
    slice_get kinds.parameters n ≡ Some ks → HaveKinds script.types kinds [] es ks → called script n es ≡ Ok t →
    IsClosedTerm script kinds t

-- so is each instance of a replicated form
abbrev pub InstancesAreClosed : Script → Kinds → Type 0
InstancesAreClosed script kinds =
    (n : ℕ) (e : Expression) (k : Kind) (p : Process) (vs : List Value) →
    HasKind script.types kinds [] e (SetKind k) → IsWellKinded script kinds ((n, k) ∷ []) p → elements script.types e ≡ Ok vs →
    Each (IsClosedTerm script kinds) (instances n p vs)

-- and the body of a prefix, with the values of its inputs
abbrev pub PrefixesLeadToClosed : Script → Kinds → Type 0
PrefixesLeadToClosed script kinds =
    (c : ℕ) (fs : List Field) (p : Process) (ms : List Communication) →
    IsClosedTerm script kinds (Prefix c fs p) → prefix_communications script c fs ≡ Ok ms →
    Each (λ m. IsClosedTerm script kinds (put m.bindings p)) ms

-- ---- what a term does

-- a rule for a closed term meets no misfit
abbrev pub ClosedTermsAreNoMisfits : Script → Kinds → Type 0
ClosedTermsAreNoMisfits script kinds =
    (t : Process) → IsClosedTerm script kinds t → cause_in script t ≢ Some IllKinded

-- it is closed when its names are unfolded
abbrev pub SettledTermsAreClosed : Script → Kinds → Type 0
SettledTermsAreClosed script kinds =
    (t : Process) → IsClosedTerm script kinds t → IsClosedTerm script kinds (settled script t)

-- its steps lead to closed terms
abbrev pub StepsKeepTermsClosed : Script → Kinds → Type 0
StepsKeepTermsClosed script kinds =
    (t : Process) (x : Action) (u : Process) →
    IsClosedTerm script kinds t → RuleStep script t x u → IsClosedTerm script kinds u

-- so do its runs
abbrev pub RunsKeepTermsClosed : Script → Kinds → Type 0
RunsKeepTermsClosed script kinds =
    (t : Process) (path : List Action) (u : Process) →
    IsClosedTerm script kinds t → Run script t path u → IsClosedTerm script kinds u

-- it has all the steps of its rules, or is faulty by a cause that is no misfit, or is large
abbrev pub ClosedTermsHaveTheirSteps : Script → Kinds → Type 0
ClosedTermsHaveTheirSteps script kinds =
    (t : Process) → IsClosedTerm script kinds t →
    IsNotStuck script t ⊎ (((c : Cause) × IsFaulty script t c × (c ≢ IllKinded)) ⊎ IsLarge script t)

-- no cause of a term that it reaches is a misfit
abbrev pub FaultsAreNoMisfits : Script → Process → Type 0
FaultsAreNoMisfits script t = (c : Cause) → SomeReachable script t (λ u. IsFaulty script u c) → c ≢ IllKinded

-- ---- assertions

-- both sides of the assertion are terms of the script
abbrev pub SidesAreTerms : Script → Assertion → Type 0
SidesAreTerms script a = IfSome (specification_of a.property) (IsTermOf script) × IsTermOf script a.implementation
