-- The kinds of expressions.
use Rattle.std.specs.Prelude.{◌≡◌, ℕ, List, [], ◌∷◌, slice_get, Some, ⊤}
use Rattle.theory_syntax.specs.Expression.{Unary, Negate, Not, Length, Head, Tail, IsNull, Card, Binary, Add, Subtract, Multiply, Modulus, Concatenate, Equals, Differs, LessThan, AtMost, GreaterThan, AtLeast, And, Or, IsElement, IsMember, Union, Intersection, Difference, Expression, Literal, Name, Apply, Combine, SequenceOf, SetOf, Range, Booleans, Datatype, Nametype, ConstructorOf, Expressions, no_expressions, expression_and, expressions_list}
use Rattle.theory_syntax.specs.Types.{Types}
use Rattle.theory_semantics.specs.Kinds.Kind.{Kind, IntKind, BoolKind, DatatypeKind, SequenceKind, SetKind, Kinds, Scope, kind_of_name, BeginsInTurn}
use Rattle.theory_semantics.specs.Kinds.Values.{IsConstructorOf, IsValueOf}

-- the kinds of an operator's operand and of its value
pub data UnaryKinds : Unary → Kind → Kind → Type 0 where
  negate : UnaryKinds Negate IntKind IntKind
  negation : UnaryKinds Not BoolKind BoolKind
  count : {k : Kind} → UnaryKinds Length (SequenceKind k) IntKind
  head : {k : Kind} → UnaryKinds Head (SequenceKind k) k
  tail : {k : Kind} → UnaryKinds Tail (SequenceKind k) (SequenceKind k)
  is_null : {k : Kind} → UnaryKinds IsNull (SequenceKind k) BoolKind
  card : {k : Kind} → UnaryKinds Card (SetKind k) IntKind

-- the kinds of an operator's left operand, of its right one, and of its value
pub data BinaryKinds : Binary → Kind → Kind → Kind → Type 0 where
  add : BinaryKinds Add IntKind IntKind IntKind
  subtract : BinaryKinds Subtract IntKind IntKind IntKind
  multiply : BinaryKinds Multiply IntKind IntKind IntKind
  remainder : BinaryKinds Modulus IntKind IntKind IntKind
  concatenate : {k : Kind} → BinaryKinds Concatenate (SequenceKind k) (SequenceKind k) (SequenceKind k)
  equals : {k : Kind} → BinaryKinds Equals k k BoolKind
  differs : {k : Kind} → BinaryKinds Differs k k BoolKind
  less_than : BinaryKinds LessThan IntKind IntKind BoolKind
  at_most : BinaryKinds AtMost IntKind IntKind BoolKind
  greater_than : BinaryKinds GreaterThan IntKind IntKind BoolKind
  at_least : BinaryKinds AtLeast IntKind IntKind BoolKind
  conjunction : BinaryKinds And BoolKind BoolKind BoolKind
  disjunction : BinaryKinds Or BoolKind BoolKind BoolKind
  is_element : {k : Kind} → BinaryKinds IsElement k (SequenceKind k) BoolKind
  is_member : {k : Kind} → BinaryKinds IsMember k (SetKind k) BoolKind
  unite : {k : Kind} → BinaryKinds Union (SetKind k) (SetKind k) (SetKind k)
  intersect : {k : Kind} → BinaryKinds Intersection (SetKind k) (SetKind k) (SetKind k)
  subtract_set : {k : Kind} → BinaryKinds Difference (SetKind k) (SetKind k) (SetKind k)

-- The expression has the kind, where the bound names have those of the scope.
-- An expression may have several kinds: `<>` is of every kind of sequences, `{}` of every kind of sets.
abbrev mutual
  pub HasKind : Types → Kinds → Scope → Expression → Kind → Type 0
  HasKind types kinds scope (Literal v) k = IsValueOf types kinds v k
  HasKind types kinds scope (Name n) k = kind_of_name scope n ≡ Some k
  HasKind types kinds scope (Apply op e) k = (m : Kind) × UnaryKinds op m k × HasKind types kinds scope e m
  HasKind types kinds scope (Combine op e f) k = (m n : Kind) × BinaryKinds op m n k × HasKind types kinds scope e m × HasKind types kinds scope f n
  HasKind types kinds scope (SequenceOf es) (SequenceKind k) = AllHaveKind types kinds scope es k
  HasKind types kinds scope (SetOf es) (SetKind k) = AllHaveKind types kinds scope es k
  HasKind types kinds scope (Range e f) (SetKind IntKind) = HasKind types kinds scope e IntKind × HasKind types kinds scope f IntKind
  HasKind types kinds scope Booleans (SetKind BoolKind) = ⊤
  HasKind types kinds scope (Datatype d) (SetKind (DatatypeKind c)) = (d ≡ c) × ((cs : List ℕ) × (slice_get types.datatypes d ≡ Some cs))
  HasKind types kinds scope (Nametype n) (SetKind k) = slice_get kinds.nametypes n ≡ Some k
  HasKind types kinds scope (ConstructorOf c es) (DatatypeKind d) =
      IsConstructorOf types d c × ((ks : List Kind) × (slice_get kinds.constructors c ≡ Some ks) × HaveKinds types kinds scope es ks)
  HasKind types kinds scope e k = ⊥

  pub AllHaveKind : Types → Kinds → Scope → Expressions → Kind → Type 0
  AllHaveKind types kinds scope no_expressions k = ⊤
  AllHaveKind types kinds scope (expression_and e es) k = HasKind types kinds scope e k × AllHaveKind types kinds scope es k

  -- the expressions have the kinds in turn
  pub HaveKinds : Types → Kinds → Scope → Expressions → List Kind → Type 0
  HaveKinds types kinds scope no_expressions [] = ⊤
  HaveKinds types kinds scope (expression_and e es) (k ∷ ks) = HasKind types kinds scope e k × HaveKinds types kinds scope es ks
  HaveKinds types kinds scope es ks = ⊥

-- the expressions have the first of the kinds in turn
abbrev pub HaveFirstKinds : Types → Kinds → Scope → Expressions → List Kind → Type 0
HaveFirstKinds types kinds scope es ks = BeginsInTurn (HasKind types kinds scope) (expressions_list es) ks
