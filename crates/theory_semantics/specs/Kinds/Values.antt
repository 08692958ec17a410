-- The kinds of values.
use Rattle.std.specs.Prelude.{◌≡◌, ℕ, List, [], ◌∷◌, Contains, slice_get, Some, ⊤}
use Rattle.std.specs.Ordering.{nat_cmp}
use Rattle.theory_syntax.specs.Value.{Value, Integer, Truth, Constructor, Sequence, Set, Values, no_values, value_and, values_list, value_cmp}
use Rattle.theory_syntax.specs.Types.{Types}
use Rattle.theory_semantics.specs.Meaning.Offers.{RisesBy}
use Rattle.theory_semantics.specs.Kinds.Kind.{Kind, IntKind, BoolKind, DatatypeKind, SequenceKind, SetKind, Kinds, Each}

-- the constructor is one of the datatype
abbrev pub IsConstructorOf : Types → ℕ → ℕ → Type 0
IsConstructorOf types d c = (cs : List ℕ) × (slice_get types.datatypes d ≡ Some cs) × Contains cs c

-- the numbers of the constructors of each datatype rise
abbrev pub DatatypesRise : Types → Type 0
DatatypesRise types = Each (RisesBy nat_cmp) types.datatypes

-- The empty sequence is of every kind of sequences, the empty set of every kind of sets. The members of a set rise.
-- The fields of a constructor have the kinds of its fields in turn.
abbrev mutual
  pub IsValueOf : Types → Kinds → Value → Kind → Type 0
  IsValueOf types kinds (Integer z) IntKind = ⊤
  IsValueOf types kinds (Truth b) BoolKind = ⊤
  IsValueOf types kinds (Constructor c vs) (DatatypeKind d) =
      IsConstructorOf types d c × ((ks : List Kind) × (slice_get kinds.constructors c ≡ Some ks) × AreValuesInTurn types kinds vs ks)
  IsValueOf types kinds (Sequence vs) (SequenceKind k) = AreValuesOf types kinds vs k
  IsValueOf types kinds (Set vs) (SetKind k) = AreValuesOf types kinds vs k × RisesBy value_cmp (values_list vs)
  IsValueOf types kinds v k = ⊥

  pub AreValuesOf : Types → Kinds → Values → Kind → Type 0
  AreValuesOf types kinds no_values k = ⊤
  AreValuesOf types kinds (value_and v vs) k = IsValueOf types kinds v k × AreValuesOf types kinds vs k

  pub AreValuesInTurn : Types → Kinds → Values → List Kind → Type 0
  AreValuesInTurn types kinds no_values [] = ⊤
  AreValuesInTurn types kinds (value_and v vs) (k ∷ ks) = IsValueOf types kinds v k × AreValuesInTurn types kinds vs ks
  AreValuesInTurn types kinds vs ks = ⊥

-- each value of a list has the kind
abbrev pub MembersHaveKind : Types → Kinds → List Value → Kind → Type 0
MembersHaveKind types kinds vs k = Each (λ v. IsValueOf types kinds v k) vs

-- A list is that of the members of a set of the kind: they have it, and rise.
abbrev pub AreMembersOf : Types → Kinds → List Value → Kind → Type 0
AreMembersOf types kinds vs k = MembersHaveKind types kinds vs k × RisesBy value_cmp vs
