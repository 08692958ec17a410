-- What the equations ask for, of terms with numbers of their own: each word says it of all terms of its sort.
use Rattle.std.specs.Prelude.{ℕ, ◌<◌, List, map, Option}
use Rattle.theory_syntax.specs.Value.{Value}
use Rattle.theory_syntax.specs.Expression.{Expression, Expressions}
use Rattle.theory_syntax.specs.Process.{Field, EventExpression, EventSet, RenamingPair, Process, Script}
use Rattle.theory_syntax.specs.Types.{Types}
use Rattle.theory_semantics.specs.Kinds.Kind.{Each}
use Rattle.theory_semantics.specs.Kinds.Values.{IsValueOf}
use Rattle.theory_semantics.specs.Kinds.Expressions.{HasKind, AllHaveKind, HaveKinds, HaveFirstKinds}
use Rattle.theory_semantics.specs.Kinds.Events.{FieldsHaveKinds, IsEvent, IsEventSet, IsPair}
use Rattle.theory_semantics.specs.Kinds.Processes.{IsWellKinded}
use Rattle.theory_checking.specs.Sets.{IsSetOf}
use Rattle.theory_checking.specs.Fitting.{Item, FitsItem}
use Rattle.theory_checking.specs.Inference.Chain.{Chain, kind_of}
use Rattle.theory_checking.specs.Inference.Equations.{Ask, Numbering, kinds_under, Numbered, scope_under, IsBelow, NamesBelow, IsChainBelow}
use Rattle.theory_checking.specs.Inference.Expressions.{behind_value, behind_expression, behind_expressions, of_value, of_expression, of_expressions, of_all, of_first}
use Rattle.theory_checking.specs.Inference.Processes.{behind_fields, behind_event, behind_event_set, behind_pairs, behind_process, of_fields, of_event, of_event_set, of_pairs, of_process}
use Rattle.theory_checking.specs.Inference.Items.{behind_set, of_set, behind_items, of_items}

-- all numbers in use are below n, those of the bound names too
abbrev pub AreBelow : ℕ → Numbering → Numbered → Type 0
AreBelow n o names = IsBelow n o × NamesBelow n names

-- ---- expressions

-- the equations of a value ask that it has the kind
abbrev pub ValuesAskForKinds : Types → Numbering → Type 0
ValuesAskForKinds types o = (n : ℕ) (v : Value) (k : Chain) →
    IsBelow n o →
    IsChainBelow n k →
    Ask n (of_value o n v k) (behind_value n v) (λ a. IsValueOf types (kinds_under a o) v (kind_of a k))

-- the equations of an expression ask that it has the kind
abbrev pub ExpressionsAskForKinds : Types → Numbering → Type 0
ExpressionsAskForKinds types o = (n : ℕ) (names : Numbered) (e : Expression) (k : Chain) →
    AreBelow n o names →
    IsChainBelow n k →
    Ask n (of_expression types o n names e k) (behind_expression n e) (λ a. HasKind types (kinds_under a o) (scope_under a names) e (kind_of a k))

-- those of a list that all its items have the kind
abbrev pub ItemsAskForKinds : Types → Numbering → Type 0
ItemsAskForKinds types o = (n : ℕ) (names : Numbered) (es : Expressions) (k : Chain) →
    AreBelow n o names →
    IsChainBelow n k →
    Ask n (of_expressions types o n names es k) (behind_expressions n es) (λ a. AllHaveKind types (kinds_under a o) (scope_under a names) es (kind_of a k))

-- those of a list with numbers that its items have the kinds of these in turn
abbrev pub TurnsAskForKinds : Types → Numbering → Type 0
TurnsAskForKinds types o = (n : ℕ) (names : Numbered) (es : Expressions) (ms : List ℕ) →
    AreBelow n o names →
    Each (λ m. m < n) ms →
    Ask n (of_all types o n names es ms) (behind_expressions n es) (λ a. HaveKinds types (kinds_under a o) (scope_under a names) es (map a ms))

-- and where there may be more numbers than items
abbrev pub FirstTurnsAskForKinds : Types → Numbering → Type 0
FirstTurnsAskForKinds types o = (n : ℕ) (names : Numbered) (es : Expressions) (ms : List ℕ) →
    AreBelow n o names →
    Each (λ m. m < n) ms →
    Ask n (of_first types o n names es ms) (behind_expressions n es) (λ a. HaveFirstKinds types (kinds_under a o) (scope_under a names) es (map a ms))

-- ---- events and processes

-- the equations of fields ask that they have the kinds of these numbers in turn
abbrev pub FieldsAskForKinds : Types → Numbering → Type 0
FieldsAskForKinds types o = (n : ℕ) (names : Numbered) (fs : List Field) (ms : List ℕ) →
    AreBelow n o names →
    Each (λ m. m < n) ms →
    Ask n (of_fields types o n names fs ms) (behind_fields n fs) (λ a. FieldsHaveKinds types (kinds_under a o) (scope_under a names) fs (map a ms))

-- those of an event that it is well-kinded
abbrev pub EventsAskForKinds : Types → Numbering → Type 0
EventsAskForKinds types o = (n : ℕ) (names : Numbered) (e : EventExpression) →
    AreBelow n o names →
    Ask n (of_event types o n names e) (behind_event n e) (λ a. IsEvent types (kinds_under a o) (scope_under a names) e)

-- those of a set of events that it is
abbrev pub EventSetsAskForKinds : Types → Numbering → Type 0
EventSetsAskForKinds types o = (n : ℕ) (names : Numbered) (s : EventSet) →
    AreBelow n o names →
    Ask n (of_event_set types o n names s) (behind_event_set n s) (λ a. IsEventSet types (kinds_under a o) (scope_under a names) s)

-- those of a renaming that its pairs are
abbrev pub PairsAskForKinds : Script → Numbering → Type 0
PairsAskForKinds script o = (n : ℕ) (names : Numbered) (rs : List RenamingPair) →
    AreBelow n o names →
    Ask n (of_pairs script o n names rs) (behind_pairs n rs) (λ a. Each (IsPair script (kinds_under a o) (scope_under a names)) rs)

-- those of a process that it is
abbrev pub ProcessesAskForKinds : Script → Numbering → Type 0
ProcessesAskForKinds script o = (n : ℕ) (names : Numbered) (p : Process) →
    AreBelow n o names →
    Ask n (of_process script o n names p) (behind_process n p) (λ a. IsWellKinded script (kinds_under a o) (scope_under a names) p)

-- ---- sets, equations and assertions

-- the equations of a set ask that it has members of the kind of this number
abbrev pub SetsAskForKinds : Types → Numbering → Type 0
SetsAskForKinds types o = (n x : ℕ) (e : Option Expression) →
    IsBelow n o →
    x < n →
    Ask n (of_set types o n e x) (behind_set n e) (λ a. IsSetOf types (kinds_under a o) e (a x))

-- those of equations and assertions that the kinds fit them
abbrev pub DeclarationsAskForKinds : Script → Numbering → Type 0
DeclarationsAskForKinds script o = (n : ℕ) (xs : List Item) →
    IsBelow n o →
    Ask n (of_items script o n xs) (behind_items script n xs) (λ a. Each (FitsItem script (kinds_under a o)) xs)
