-- The parts of a closed term that its rules evaluate, for the laws: none of them is a misfit.
use Rattle.std.specs.Prelude.{◌≡◌, ◌≢◌, ℕ, List, [], Some, Err, slice_get}
use Rattle.theory_syntax.specs.Value.{Value}
use Rattle.theory_syntax.specs.Expression.{Expression, Expressions}
use Rattle.theory_syntax.specs.Process.{Field, EventExpression, EventSet, RenamingPair, Script}
use Rattle.theory_semantics.specs.Meaning.Evaluation.{IllKinded, values}
use Rattle.theory_semantics.specs.Meaning.Substitution.{Bindings}
use Rattle.theory_semantics.specs.Meaning.Events.{condition, elements, communications, prefix_communications, event_of, beginning_of, event_test, renaming, called}
use Rattle.theory_semantics.specs.Kinds.Kind.{Kind, BoolKind, SetKind, Kinds, Scope, Each}
use Rattle.theory_semantics.specs.Kinds.Expressions.{HasKind, HaveKinds}
use Rattle.theory_semantics.specs.Kinds.Events.{FieldsHaveKinds, IsEvent, IsBeginning, IsEventSet, IsPair}
use Rattle.theory_semantics.specs.Kinds.Putting.{BindingsFit}
use Rattle.theory_semantics.specs.Kinds.Scripts.{SetsHaveTheirKinds}

-- a condition has a value, or a cause that is no misfit
abbrev pub ConditionsAreNoMisfits : Script → Kinds → Type 0
ConditionsAreNoMisfits script kinds =
    (e : Expression) → HasKind script.types kinds [] e BoolKind → condition script.types e ≢ Err IllKinded

-- so has an expression whose elements are asked for
abbrev pub ElementsAreNoMisfits : Script → Kinds → Type 0
ElementsAreNoMisfits script kinds =
    (e : Expression) (k : Kind) → HasKind script.types kinds [] e (SetKind k) → elements script.types e ≢ Err IllKinded

-- the fields of a prefix over a channel
abbrev pub FieldsAreNoMisfits : Script → Kinds → Type 0
FieldsAreNoMisfits script kinds =
    (c : ℕ) (fs : List Field) (ks : List Kind) →
    slice_get kinds.channels c ≡ Some ks → FieldsHaveKinds script.types kinds [] fs ks →
    prefix_communications script c fs ≢ Err IllKinded

-- fields behind others, whose inputs have values
abbrev pub OpenFieldsAreNoMisfits : Script → Kinds → Type 0
OpenFieldsAreNoMisfits script kinds =
    (bs : Bindings) (scope : Scope) (fs : List Field) (sets : List (List Value)) (ks : List Kind) →
    BindingsFit script.types kinds bs scope [] → FieldsHaveKinds script.types kinds scope fs ks →
    SetsHaveTheirKinds script.types kinds sets ks →
    communications script.types bs fs sets ≢ Err IllKinded

-- an event
abbrev pub EventsAreNoMisfits : Script → Kinds → Type 0
EventsAreNoMisfits script kinds =
    (e : EventExpression) → IsEvent script.types kinds [] e → event_of script e ≢ Err IllKinded

-- beginnings of events
abbrev pub BeginningsAreNoMisfits : Script → Kinds → Type 0
BeginningsAreNoMisfits script kinds =
    (e : EventExpression) → IsBeginning script.types kinds [] e → beginning_of script e ≢ Err IllKinded

-- a set of events
abbrev pub EventSetsAreNoMisfits : Script → Kinds → Type 0
EventSetsAreNoMisfits script kinds =
    (a : EventSet) → IsEventSet script.types kinds [] a → event_test script a ≢ Err IllKinded

-- the pairs of a renaming
abbrev pub RenamingsAreNoMisfits : Script → Kinds → Type 0
RenamingsAreNoMisfits script kinds =
    (rs : List RenamingPair) → Each (IsPair script kinds []) rs → renaming script rs ≢ Err IllKinded

-- the arguments of a call
abbrev pub ArgumentsAreNoMisfits : Script → Kinds → Type 0
ArgumentsAreNoMisfits script kinds =
    (es : Expressions) (ks : List Kind) → HaveKinds script.types kinds [] es ks → values script.types es ≢ Err IllKinded

-- a call of an equation that has as many parameters
abbrev pub CallsAreNoMisfits : Script → Kinds → Type 0
CallsAreNoMisfits script kinds =
    (n : ℕ) (es : Expressions) (ks : List Kind) →
    slice_get kinds.parameters n ≡ Some ks → HaveKinds script.types kinds [] es ks →
    called script n es ≢ Err IllKinded
