-- The value of an expression. Parts are evaluated from left to right, and the first cause counts.
use Rattle.std.specs.Prelude.{ℕ, zero, suc, ◌+◌, ◌-◌, ◌%◌, ◌^◌, nat_lt, nat_le, Bool, true, false, not, ◌&&◌, ◌||◌, cond, List, [], ◌∷◌, ◌++◌, length, filter, map, flat_map, nat_eq, slice_get, ok_or, ℤ, pos, negsuc, ◌+ℤ◌, ◌-ℤ◌, ◌*ℤ◌, neg_ℤ, int_lt, int_le, unsigned_abs, Option, Some, None, Result, Ok, Err}
use Rattle.theory_syntax.specs.Value.{Value, Integer, Truth, Constructor, Sequence, Set, to_values, values_list, value_eq, has_value, insert_values, sorted_values}
use Rattle.theory_syntax.specs.Expression.{Unary, Negate, Not, Length, Head, Tail, IsNull, Card, Binary, Add, Subtract, Multiply, Modulus, Concatenate, Equals, Differs, LessThan, AtMost, GreaterThan, AtLeast, And, Or, IsElement, IsMember, Union, Intersection, Difference, Expression, Literal, Name, Apply, Combine, SequenceOf, SetOf, Range, Booleans, Datatype, Nametype, ConstructorOf, Expressions, no_expressions, expression_and}
use Rattle.theory_syntax.specs.Types.{Types}

-- Why there is no value, or no rule. The order is that of their numbers.
-- The last one is an operand of the wrong kind, or a name without a value: a closed term of the right kinds never meets it.
pub data Cause : Type 0 where
  OutOfRange : Cause
  Overflow : Cause
  EmptySequence : Cause
  BadModulus : Cause
  EmptyChoice : Cause
  IllKinded : Cause

-- goes on with the value, or else keeps the cause
infixl 20 ◌and_then◌
abbrev pub ◌and_then◌ : {A B : Type 0} → Result A Cause → (A → Result B Cause) → Result B Cause
◌and_then◌ (Ok v) f = f v
◌and_then◌ (Err c) f = Err c

-- a whole number has 32 bits
abbrev pub fits_word : ℤ → Bool
fits_word (pos n) = nat_lt n (2 ^ 31)
fits_word (negsuc n) = nat_lt n (2 ^ 31)

abbrev pub integer : ℤ → Result Value Cause
integer z = cond (fits_word z) (Ok (Integer z)) (Err Overflow)

-- a sequence or a set has at most 1,024 members
abbrev pub max_members : ℕ
max_members = 1024

abbrev pub sequence : List Value → Result Value Cause
sequence vs = cond (nat_le (length vs) max_members) (Ok (Sequence (to_values vs))) (Err Overflow)

abbrev pub set_of : List Value → Result Value Cause
set_of vs = cond (nat_le (length vs) max_members) (Ok (Set (to_values vs))) (Err Overflow)

-- the number from 0 to m - 1 that differs from x by a multiple of m, for m above 0
abbrev pub modulus : ℤ → ℤ → Result Value Cause
modulus (pos x) (pos (suc m)) = Ok (Integer (pos (x % suc m)))
modulus (negsuc x) (pos (suc m)) = Ok (Integer (pos (m - x % suc m)))
modulus _ _ = Err BadModulus

-- n numbers from x on
abbrev pub numbers_from : ℤ → ℕ → List Value
numbers_from x zero = []
numbers_from x (suc n) = Integer x ∷ numbers_from (x +ℤ pos 1) n

-- how many numbers there are from x to y
abbrev pub count_between : ℤ → ℤ → ℕ
count_between x y = cond (int_lt y x) 0 (unsigned_abs (y -ℤ x) + 1)

abbrev pub range : ℤ → ℤ → Result Value Cause
range x y = elim (nat_le (count_between x y) max_members) [ true ↦ set_of (numbers_from x (count_between x y)) | false ↦ Err Overflow ]

-- a given value has to lie in its field set
abbrev pub in_field_set : List Value → Value → Result Value Cause
in_field_set set v = cond (has_value set v) (Ok v) (Err OutOfRange)

-- the field sets of a constructor
abbrev pub constructor_sets : Types → ℕ → Result (List (List Value)) Cause
constructor_sets types k = ok_or (slice_get types.constructors k) IllKinded

-- the lists with a value of each set in turn; the last value changes first
abbrev pub choices : List (List Value) → List (List Value)
choices [] = [] ∷ []
choices (set ∷ sets) = flat_map (λ v. map (λ vs. v ∷ vs) (choices sets)) set

-- a constructor with all fields of its sets
abbrev pub with_all_fields : ℕ → List (List Value) → List Value
with_all_fields k sets = map (λ vs. Constructor k (to_values vs)) (choices sets)

-- constructors in turn, each with all its fields
abbrev pub constructors : Types → List ℕ → Result (List Value) Cause
constructors types [] = Ok []
constructors types (k ∷ ks) = constructor_sets types k and_then λ sets. constructors types ks and_then λ vs. Ok (with_all_fields k sets ++ vs)

-- a constructor with as many fields as it has sets
abbrev pub constructed : ℕ → List (List Value) → List Value → Result Value Cause
constructed k sets vs = cond (nat_eq (length vs) (length sets)) (Ok (Constructor k (to_values vs))) (Err IllKinded)

-- the table's set, or an ill-kinded name
abbrev pub set_at : Option (List Value) → Result Value Cause
set_at (Some vs) = set_of vs
set_at None = Err IllKinded

abbrev pub datatype_set : Types → Option (List ℕ) → Result Value Cause
datatype_set types (Some ks) = constructors types ks and_then λ vs. set_of vs
datatype_set types None = Err IllKinded

abbrev pub head_of : List Value → Result Value Cause
head_of [] = Err EmptySequence
head_of (v ∷ vs) = Ok v

abbrev pub tail_of : List Value → Result Value Cause
tail_of [] = Err EmptySequence
tail_of (v ∷ vs) = Ok (Sequence (to_values vs))

abbrev pub is_empty : List Value → Bool
is_empty [] = true
is_empty (v ∷ vs) = false

-- what an operator makes of one value
abbrev pub apply : Unary → Value → Result Value Cause
apply Negate (Integer z) = integer (neg_ℤ z)
apply Not (Truth b) = Ok (Truth (not b))
apply Length (Sequence vs) = integer (pos (length (values_list vs)))
apply Head (Sequence vs) = head_of (values_list vs)
apply Tail (Sequence vs) = tail_of (values_list vs)
apply IsNull (Sequence vs) = Ok (Truth (is_empty (values_list vs)))
apply Card (Set vs) = integer (pos (length (values_list vs)))
apply _ _ = Err IllKinded

-- what an operator makes of two values
abbrev pub combine : Binary → Value → Value → Result Value Cause
combine Add (Integer x) (Integer y) = integer (x +ℤ y)
combine Subtract (Integer x) (Integer y) = integer (x -ℤ y)
combine Multiply (Integer x) (Integer y) = integer (x *ℤ y)
combine Modulus (Integer x) (Integer y) = modulus x y
combine Concatenate (Sequence vs) (Sequence ws) = sequence (values_list vs ++ values_list ws)
combine Equals v w = Ok (Truth (value_eq v w))
combine Differs v w = Ok (Truth (not (value_eq v w)))
combine LessThan (Integer x) (Integer y) = Ok (Truth (int_lt x y))
combine AtMost (Integer x) (Integer y) = Ok (Truth (int_le x y))
combine GreaterThan (Integer x) (Integer y) = Ok (Truth (int_lt y x))
combine AtLeast (Integer x) (Integer y) = Ok (Truth (int_le y x))
combine And (Truth a) (Truth b) = Ok (Truth (a && b))
combine Or (Truth a) (Truth b) = Ok (Truth (a || b))
combine IsElement v (Sequence ws) = Ok (Truth (has_value (values_list ws) v))
combine IsMember v (Set ws) = Ok (Truth (has_value (values_list ws) v))
combine Union (Set vs) (Set ws) = set_of (insert_values (values_list vs) (values_list ws))
combine Intersection (Set vs) (Set ws) = set_of (filter (λ v. has_value (values_list ws) v) (values_list vs))
combine Difference (Set vs) (Set ws) = set_of (filter (λ v. not (has_value (values_list ws) v)) (values_list vs))
combine _ _ _ = Err IllKinded

-- whether the left value decides, so that the right side is not evaluated
abbrev pub decides : Binary → Value → Bool
decides And (Truth false) = true
decides Or (Truth true) = true
decides _ _ = false

-- a range between two values
abbrev pub range_of : Value → Value → Result Value Cause
range_of (Integer x) (Integer y) = range x y
range_of _ _ = Err IllKinded

-- The value of a closed expression, or the first cause.
abbrev mutual
  pub value : Types → Expression → Result Value Cause
  value types (Literal v) = Ok v
  value types (Name n) = Err IllKinded
  value types (Apply op e) = value types e and_then λ v. apply op v
  value types (Combine op e f) = value types e and_then λ v. elim (decides op v) [ true ↦ Ok v | false ↦ value types f and_then λ w. combine op v w ]
  value types (SequenceOf es) = values types es and_then λ vs. sequence vs
  value types (SetOf es) = values types es and_then λ vs. set_of (sorted_values vs)
  value types (Range e f) = value types e and_then λ v. value types f and_then λ w. range_of v w
  value types Booleans = set_of (Truth false ∷ Truth true ∷ [])
  value types (Datatype d) = datatype_set types (slice_get types.datatypes d)
  value types (Nametype n) = set_at (slice_get types.nametypes n)
  value types (ConstructorOf k es) = constructor_sets types k and_then λ sets. given_values types es sets and_then λ vs. constructed k sets vs

  pub values : Types → Expressions → Result (List Value) Cause
  values types no_expressions = Ok []
  values types (expression_and e es) = value types e and_then λ v. values types es and_then λ vs. Ok (v ∷ vs)

  -- given fields, each evaluated and then compared with its set
  pub given_values : Types → Expressions → List (List Value) → Result (List Value) Cause
  given_values types no_expressions sets = Ok []
  given_values types (expression_and e es) [] = Err IllKinded
  given_values types (expression_and e es) (set ∷ sets) =
      value types e and_then λ v. in_field_set set v and_then λ w. given_values types es sets and_then λ vs. Ok (v ∷ vs)
