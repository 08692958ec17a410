-- Values of the right kinds that are put in for names, for the laws: what they are put in stays well-kinded.
use Rattle.std.specs.Prelude.{ℕ, List, [], ◌∷◌}
use Rattle.theory_syntax.specs.Value.{Value}
use Rattle.theory_syntax.specs.Expression.{Expression}
use Rattle.theory_syntax.specs.Process.{Field, EventSet, RenamingPair, Process, Script}
use Rattle.theory_syntax.specs.Types.{Types}
use Rattle.theory_semantics.specs.Meaning.Substitution.{Bindings, put_expression, put_fields, put_event_set, put_pairs, put}
use Rattle.theory_semantics.specs.Kinds.Kind.{Kind, Kinds, Scope, Each}
use Rattle.theory_semantics.specs.Kinds.Values.{IsValueOf}
use Rattle.theory_semantics.specs.Kinds.Expressions.{HasKind}
use Rattle.theory_semantics.specs.Kinds.Events.{FieldsHaveKinds, IsEventSet, IsPair}
use Rattle.theory_semantics.specs.Kinds.Processes.{IsWellKinded, IsClosedTerm}
use Rattle.theory_semantics.specs.Kinds.Putting.{BindingsFit}

-- an expression has its kind still, where the names that have no value may be used
abbrev pub ExpressionsStayKinded : Types → Kinds → Type 0
ExpressionsStayKinded types kinds =
    (bs : Bindings) (scope left : Scope) (e : Expression) (k : Kind) →
    BindingsFit types kinds bs scope left → HasKind types kinds scope e k →
    HasKind types kinds left (put_expression bs e) k

-- so have the fields of a prefix
abbrev pub FieldsStayKinded : Types → Kinds → Type 0
FieldsStayKinded types kinds =
    (bs : Bindings) (scope left : Scope) (fs : List Field) (ks : List Kind) →
    BindingsFit types kinds bs scope left → FieldsHaveKinds types kinds scope fs ks →
    FieldsHaveKinds types kinds left (put_fields bs fs) ks

-- a set of events is one still
abbrev pub EventSetsStayKinded : Types → Kinds → Type 0
EventSetsStayKinded types kinds =
    (bs : Bindings) (scope left : Scope) (a : EventSet) →
    BindingsFit types kinds bs scope left → IsEventSet types kinds scope a →
    IsEventSet types kinds left (put_event_set bs a)

-- so are the pairs of a renaming
abbrev pub PairsStayKinded : Script → Kinds → Type 0
PairsStayKinded script kinds =
    (bs : Bindings) (scope left : Scope) (rs : List RenamingPair) →
    BindingsFit script.types kinds bs scope left → Each (IsPair script kinds scope) rs →
    Each (IsPair script kinds left) (put_pairs bs rs)

-- a process is well-kinded still
abbrev pub ProcessesStayKinded : Script → Kinds → Type 0
ProcessesStayKinded script kinds =
    (bs : Bindings) (scope left : Scope) (p : Process) →
    BindingsFit script.types kinds bs scope left → IsWellKinded script kinds scope p →
    IsWellKinded script kinds left (put bs p)

-- a process over one name is a closed term once that has a value of its kind
abbrev pub OneValueCloses : Script → Kinds → Type 0
OneValueCloses script kinds =
    (n : ℕ) (v : Value) (k : Kind) (p : Process) →
    IsValueOf script.types kinds v k → IsWellKinded script kinds ((n, k) ∷ []) p →
    IsClosedTerm script kinds (put ((n, v) ∷ []) p)
