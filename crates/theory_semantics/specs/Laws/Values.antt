-- What kinds say of values, for the laws.
use Rattle.std.specs.Prelude.{◌≡◌, ◌≢◌, ℕ, List, [], ◌∷◌, ◌++◌, length, Some, Ok, Err, slice_get}
use Rattle.theory_syntax.specs.Value.{Value, to_values, value_cmp}
use Rattle.theory_syntax.specs.Expression.{Unary, Binary, Expression, Expressions}
use Rattle.theory_syntax.specs.Types.{Types}
use Rattle.theory_semantics.specs.Meaning.Evaluation.{IllKinded, constructor_sets, apply, combine, value, values, given_values}
use Rattle.theory_semantics.specs.Meaning.Events.{elements}
use Rattle.theory_semantics.specs.Meaning.Offers.{RisesBy}
use Rattle.theory_semantics.specs.Kinds.Kind.{Kind, SetKind, Kinds, Scope, Each}
use Rattle.theory_semantics.specs.Kinds.Values.{IsValueOf, AreValuesInTurn, MembersHaveKind, AreMembersOf}
use Rattle.theory_semantics.specs.Kinds.Expressions.{HasKind, AllHaveKind, HaveKinds}
use Rattle.theory_semantics.specs.Kinds.Scripts.{SetsHaveTheirKinds, TypesHaveFirstKinds}

-- the members of each field set of a constructor rise
abbrev pub FieldSetsRise : Types → Type 0
FieldSetsRise types = (k : ℕ) (sets : List (List Value)) → constructor_sets types k ≡ Ok sets → Each (RisesBy value_cmp) sets

-- ---- values of expressions without free names

-- the value of an expression, if there is one, has the kinds of the expression
abbrev pub ValuesHaveTheirKinds : Types → Kinds → Type 0
ValuesHaveTheirKinds types kinds =
    (e : Expression) (k : Kind) → HasKind types kinds [] e k →
    (v : Value) → value types e ≡ Ok v → IsValueOf types kinds v k

-- and if there is none, the cause is no misfit
abbrev pub ValuesAreNoMisfits : Types → Kinds → Type 0
ValuesAreNoMisfits types kinds =
    (e : Expression) (k : Kind) → HasKind types kinds [] e k → value types e ≢ Err IllKinded

-- the values of expressions of one kind have that kind
abbrev pub AllValuesHaveTheirKind : Types → Kinds → Type 0
AllValuesHaveTheirKind types kinds =
    (es : Expressions) (k : Kind) → AllHaveKind types kinds [] es k →
    (vs : List Value) → values types es ≡ Ok vs → MembersHaveKind types kinds vs k

-- and if one of these has no value, the cause is no misfit
abbrev pub AllValuesAreNoMisfits : Types → Kinds → Type 0
AllValuesAreNoMisfits types kinds =
    (es : Expressions) (k : Kind) → AllHaveKind types kinds [] es k → values types es ≢ Err IllKinded

-- the elements of a set have the kind of its elements, and rise
abbrev pub ElementsHaveTheirKind : Types → Kinds → Type 0
ElementsHaveTheirKind types kinds =
    (e : Expression) (k : Kind) → HasKind types kinds [] e (SetKind k) →
    (vs : List Value) → elements types e ≡ Ok vs → AreMembersOf types kinds vs k

-- ---- operators

-- an operator gives values of the last kind to operands of the first
abbrev pub UnaryGives : Types → Kinds → Unary → Kind → Kind → Type 0
UnaryGives types kinds op m k = (v w : Value) → IsValueOf types kinds v m → apply op v ≡ Ok w → IsValueOf types kinds w k

-- or to two operands of the first two
abbrev pub BinaryGives : Types → Kinds → Binary → Kind → Kind → Kind → Type 0
BinaryGives types kinds op m n k =
    (v w u : Value) → IsValueOf types kinds v m → IsValueOf types kinds w n → combine op v w ≡ Ok u → IsValueOf types kinds u k

-- an operand of the kind is no misfit for the operator
abbrev pub UnaryFits : Types → Kinds → Unary → Kind → Type 0
UnaryFits types kinds op m = (v : Value) → IsValueOf types kinds v m → apply op v ≢ Err IllKinded

-- nor are two operands of the kinds
abbrev pub BinaryFits : Types → Kinds → Binary → Kind → Kind → Type 0
BinaryFits types kinds op m n =
    (v w : Value) → IsValueOf types kinds v m → IsValueOf types kinds w n → combine op v w ≢ Err IllKinded

-- ---- constructors

-- fields that are given for a constructor have the kinds of its fields in turn
abbrev pub GivenHaveTheirKinds : Types → Kinds → Type 0
GivenHaveTheirKinds types kinds =
    (es : Expressions) (ks : List Kind) (sets : List (List Value)) →
    HaveKinds types kinds [] es ks → SetsHaveTheirKinds types kinds sets ks →
    (vs : List Value) → given_values types es sets ≡ Ok vs → AreValuesInTurn types kinds (to_values vs) ks

-- and if one of them has no value or lies outside its set, the cause is no misfit
abbrev pub GivenAreNoMisfits : Types → Kinds → Type 0
GivenAreNoMisfits types kinds =
    (es : Expressions) (ks : List Kind) (sets : List (List Value)) →
    HaveKinds types kinds [] es ks → SetsHaveTheirKinds types kinds sets ks →
    given_values types es sets ≢ Err IllKinded

-- ---- nametypes and constructors, one after the other

-- there is a nametype for each kind of one, and there are fields for each kinds of fields
abbrev pub HasAllTypes : Types → Kinds → Type 0
HasAllTypes types kinds =
    (length types.nametypes ≡ length kinds.nametypes) × (length types.constructors ≡ length kinds.constructors)

-- the types with one more nametype
abbrev pub with_nametype : List Value → Types → Types
with_nametype vs types = record { datatypes = types.datatypes; nametypes = types.nametypes ++ vs ∷ []; constructors = types.constructors }

-- and with the fields of one more constructor
abbrev pub with_constructor : List (List Value) → Types → Types
with_constructor sets types = record { datatypes = types.datatypes; nametypes = types.nametypes; constructors = types.constructors ++ sets ∷ [] }

-- a set of the kind of the next nametype can be that nametype
abbrev pub NextNametypeFits : Types → Kinds → Type 0
NextNametypeFits types kinds =
    (vs : List Value) (k : Kind) →
    slice_get kinds.nametypes (length types.nametypes) ≡ Some k → AreMembersOf types kinds vs k →
    TypesHaveFirstKinds (with_nametype vs types) kinds

-- and sets of the kinds of the next constructor's fields can be those of its fields
abbrev pub NextConstructorFits : Types → Kinds → Type 0
NextConstructorFits types kinds =
    (sets : List (List Value)) (ks : List Kind) →
    slice_get kinds.constructors (length types.constructors) ≡ Some ks → SetsHaveTheirKinds types kinds sets ks →
    TypesHaveFirstKinds (with_constructor sets types) kinds

-- ---- other types

-- a value of a kind over the first types has it over the others too
abbrev pub ValuesKeepKinds : Types → Types → Type 0
ValuesKeepKinds types others = (kinds : Kinds) (v : Value) (k : Kind) → IsValueOf types kinds v k → IsValueOf others kinds v k

-- so have the members of a set
abbrev pub MembersKeepKinds : Types → Types → Type 0
MembersKeepKinds types others = (kinds : Kinds) (vs : List Value) (k : Kind) → AreMembersOf types kinds vs k → AreMembersOf others kinds vs k

-- and so has an expression
abbrev pub ExpressionsKeepKinds : Types → Types → Type 0
ExpressionsKeepKinds types others =
    (kinds : Kinds) (scope : Scope) (e : Expression) (k : Kind) →
    HasKind types kinds scope e k → HasKind others kinds scope e k
