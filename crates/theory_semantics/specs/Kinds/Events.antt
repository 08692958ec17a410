-- Well-kinded fields of prefixes, events, sets of events and renamings.
use Rattle.std.specs.Prelude.{◌≡◌, ◌⊎◌, ℕ, List, [], ◌∷◌, IsTrue, slice_get, Some, ⊤}
use Rattle.theory_syntax.specs.Value.{Value}
use Rattle.theory_syntax.specs.Process.{Field, Given, Input, InputFrom, EventExpression, EventSet, Enumeration, Productions, EventUnion, EventIntersection, EventDifference, RenamingPair, Script}
use Rattle.theory_syntax.specs.Types.{Types}
use Rattle.theory_semantics.specs.Meaning.Events.{is_bare}
use Rattle.theory_semantics.specs.Kinds.Kind.{Kind, SetKind, Kinds, Scope, Each}
use Rattle.theory_semantics.specs.Kinds.Expressions.{HasKind, HaveKinds, HaveFirstKinds}

-- The fields of a prefix have the kinds of its channel's fields in turn. An input binds its name in the fields after it.
abbrev pub FieldsHaveKinds : Types → Kinds → Scope → List Field → List Kind → Type 0
FieldsHaveKinds types kinds scope [] [] = ⊤
FieldsHaveKinds types kinds scope (Given e ∷ fs) (k ∷ ks) = HasKind types kinds scope e k × FieldsHaveKinds types kinds scope fs ks
FieldsHaveKinds types kinds scope (Input n ∷ fs) (k ∷ ks) = FieldsHaveKinds types kinds ((n, k) ∷ scope) fs ks
FieldsHaveKinds types kinds scope (InputFrom n e ∷ fs) (k ∷ ks) = HasKind types kinds scope e (SetKind k) × FieldsHaveKinds types kinds ((n, k) ∷ scope) fs ks
FieldsHaveKinds types kinds scope fs ks = ⊥

-- the scope behind the inputs of a prefix
abbrev pub scope_behind : Scope → List Field → List Kind → Scope
scope_behind scope (Given e ∷ fs) (k ∷ ks) = scope_behind scope fs ks
scope_behind scope (Input n ∷ fs) (k ∷ ks) = scope_behind ((n, k) ∷ scope) fs ks
scope_behind scope (InputFrom n e ∷ fs) (k ∷ ks) = scope_behind ((n, k) ∷ scope) fs ks
scope_behind scope fs ks = scope

-- a channel with all its fields, each of its kind
abbrev pub IsEvent : Types → Kinds → Scope → EventExpression → Type 0
IsEvent types kinds scope e = (ks : List Kind) × (slice_get kinds.channels e.channel ≡ Some ks) × HaveKinds types kinds scope e.fields ks

-- a channel with some first fields, each of its kind
abbrev pub IsBeginning : Types → Kinds → Scope → EventExpression → Type 0
IsBeginning types kinds scope e = (ks : List Kind) × (slice_get kinds.channels e.channel ≡ Some ks) × HaveFirstKinds types kinds scope e.fields ks

abbrev pub IsEventSet : Types → Kinds → Scope → EventSet → Type 0
IsEventSet types kinds scope (Enumeration es) = Each (IsEvent types kinds scope) es
IsEventSet types kinds scope (Productions es) = Each (IsBeginning types kinds scope) es
IsEventSet types kinds scope (EventUnion a b) = IsEventSet types kinds scope a × IsEventSet types kinds scope b
IsEventSet types kinds scope (EventIntersection a b) = IsEventSet types kinds scope a × IsEventSet types kinds scope b
IsEventSet types kinds scope (EventDifference a b) = IsEventSet types kinds scope a × IsEventSet types kinds scope b

-- two channels have the same field sets in turn
abbrev pub HaveSameSets : Script → ℕ → ℕ → Type 0
HaveSameSets script c d = (sets : List (List Value)) × (slice_get script.channels c ≡ Some sets) × (slice_get script.channels d ≡ Some sets)

-- a pair of two events, or of two bare channels with the same field sets
abbrev pub IsPair : Script → Kinds → Scope → RenamingPair → Type 0
IsPair script kinds scope r =
    (IsEvent script.types kinds scope r.from × IsEvent script.types kinds scope r.to) ⊎
    (IsTrue (is_bare r.from) × IsTrue (is_bare r.to) × HaveSameSets script r.from.channel r.to.channel)
