-- The spelling of a term as bytes: a tag byte, then the parts in the order of the text. A number takes four bytes, the
-- lowest first, and a whole number those of its two's complement. A list is its length and its items.
use Rattle.std.specs.Prelude.{ℕ, ℤ, Bool, true, false, List, [], ◌∷◌, ◌++◌, length}
use Rattle.std.specs.List.{flat_map}
use Rattle.std.specs.Int.{w32, cast_unsigned, to_le_bytes}
use Rattle.theory_syntax.specs.Value.{Value, Integer, Truth, Constructor, Sequence, Set, Values, no_values, value_and, values_list}
use Rattle.theory_syntax.specs.Expression.{Unary, Negate, Not, Length, Head, Tail, IsNull, Card, Binary, Add, Subtract, Multiply, Modulus, Concatenate, Equals, Differs, LessThan, AtMost, GreaterThan, AtLeast, And, Or, IsElement, IsMember, Union, Intersection, Difference, Expression, Literal, Name, Apply, Combine, SequenceOf, SetOf, Range, Booleans, Datatype, Nametype, ConstructorOf, Expressions, no_expressions, expression_and, expressions_list}
use Rattle.theory_syntax.specs.Process.{Field, Given, Input, InputFrom, EventExpression, EventSet, Enumeration, Productions, EventUnion, EventIntersection, EventDifference, RenamingPair, Process, Stop, Skip, Omega, Call, Prefix, Guard, If, ExternalChoice, InternalChoice, Sequential, Interleaving, Interrupt, GeneralisedParallel, AlphabetisedParallel, Hiding, Renaming, ReplicatedExternalChoice, ReplicatedInternalChoice, ReplicatedInterleaving, SlidingChoice}

-- a number below 2 ^ 32: of a name, of a channel and the like, or the length of a list
unfoldable pub number_spelling : ℕ → List ℕ
number_spelling n = to_le_bytes w32 n

-- a whole number of 32 bits
unfoldable pub whole_spelling : ℤ → List ℕ
whole_spelling z = number_spelling (cast_unsigned w32 z)

abbrev pub truth_spelling : Bool → List ℕ
truth_spelling false = 0 ∷ []
truth_spelling true = 1 ∷ []

-- a list: its length, then its items
abbrev pub list_spelling : {X : Type 0} → (X → List ℕ) → List X → List ℕ
list_spelling spelled xs = number_spelling (length xs) ++ flat_map spelled xs

abbrev mutual
  pub value_spelling : Value → List ℕ
  value_spelling (Integer z) = 0x60 ∷ whole_spelling z
  value_spelling (Truth b) = 0x61 ∷ truth_spelling b
  value_spelling (Constructor k no_values) = 0x62 ∷ number_spelling k
  value_spelling (Sequence vs) = 0x63 ∷ (number_spelling (length (values_list vs)) ++ values_spelling vs)
  value_spelling (Set vs) = 0x64 ∷ (number_spelling (length (values_list vs)) ++ values_spelling vs)
  value_spelling (Constructor k (value_and v vs)) = 0x65 ∷ (number_spelling k ++ (number_spelling (length (values_list (value_and v vs))) ++ values_spelling (value_and v vs)))

  pub values_spelling : Values → List ℕ
  values_spelling no_values = []
  values_spelling (value_and v vs) = value_spelling v ++ values_spelling vs

abbrev pub unary_tag : Unary → ℕ
unary_tag Negate = 0x32
unary_tag Not = 0x33
unary_tag Length = 0x34
unary_tag Head = 0x35
unary_tag Tail = 0x36
unary_tag IsNull = 0x37
unary_tag Card = 0x38

abbrev pub binary_tag : Binary → ℕ
binary_tag Add = 0x39
binary_tag Subtract = 0x3a
binary_tag Multiply = 0x3b
binary_tag Modulus = 0x3c
binary_tag Concatenate = 0x3d
binary_tag Equals = 0x3e
binary_tag Differs = 0x3f
binary_tag LessThan = 0x40
binary_tag AtMost = 0x41
binary_tag GreaterThan = 0x42
binary_tag AtLeast = 0x43
binary_tag And = 0x44
binary_tag Or = 0x45
binary_tag IsElement = 0x46
binary_tag IsMember = 0x47
binary_tag Union = 0x48
binary_tag Intersection = 0x49
binary_tag Difference = 0x4a

abbrev mutual
  pub expression_spelling : Expression → List ℕ
  expression_spelling (Literal v) = 0x30 ∷ value_spelling v
  expression_spelling (Name n) = 0x31 ∷ number_spelling n
  expression_spelling (Apply op e) = unary_tag op ∷ expression_spelling e
  expression_spelling (Combine op e f) = binary_tag op ∷ (expression_spelling e ++ expression_spelling f)
  expression_spelling (SequenceOf es) = 0x4b ∷ (number_spelling (length (expressions_list es)) ++ expressions_spelling es)
  expression_spelling (SetOf es) = 0x4c ∷ (number_spelling (length (expressions_list es)) ++ expressions_spelling es)
  expression_spelling (Range e f) = 0x4d ∷ (expression_spelling e ++ expression_spelling f)
  expression_spelling Booleans = 0x4e ∷ []
  expression_spelling (Datatype d) = 0x4f ∷ number_spelling d
  expression_spelling (Nametype n) = 0x50 ∷ number_spelling n
  expression_spelling (ConstructorOf k es) = 0x51 ∷ (number_spelling k ++ (number_spelling (length (expressions_list es)) ++ expressions_spelling es))

  pub expressions_spelling : Expressions → List ℕ
  expressions_spelling no_expressions = []
  expressions_spelling (expression_and e es) = expression_spelling e ++ expressions_spelling es

-- a list of expressions with its length
abbrev pub arguments_spelling : Expressions → List ℕ
arguments_spelling es = number_spelling (length (expressions_list es)) ++ expressions_spelling es

abbrev pub field_spelling : Field → List ℕ
field_spelling (Given e) = 0x20 ∷ expression_spelling e
field_spelling (Input n) = 0x21 ∷ number_spelling n
field_spelling (InputFrom n e) = 0x22 ∷ (number_spelling n ++ expression_spelling e)

abbrev pub event_spelling : EventExpression → List ℕ
event_spelling e = number_spelling e.channel ++ arguments_spelling e.fields

abbrev pub event_set_spelling : EventSet → List ℕ
event_set_spelling (Enumeration es) = 0x28 ∷ list_spelling event_spelling es
event_set_spelling (Productions es) = 0x29 ∷ list_spelling event_spelling es
event_set_spelling (EventUnion a b) = 0x2a ∷ (event_set_spelling a ++ event_set_spelling b)
event_set_spelling (EventIntersection a b) = 0x2b ∷ (event_set_spelling a ++ event_set_spelling b)
event_set_spelling (EventDifference a b) = 0x2c ∷ (event_set_spelling a ++ event_set_spelling b)

-- each side of a renaming is spelled as an event
abbrev pub pair_spelling : RenamingPair → List ℕ
pair_spelling r = event_spelling r.from ++ event_spelling r.to

abbrev pub spelling : Process → List ℕ
spelling Stop = 0x01 ∷ []
spelling Skip = 0x02 ∷ []
spelling Omega = 0x03 ∷ []
spelling (Call n es) = 0x04 ∷ (number_spelling n ++ arguments_spelling es)
spelling (Prefix c fs p) = 0x05 ∷ (number_spelling c ++ list_spelling field_spelling fs ++ spelling p)
spelling (Guard e p) = 0x06 ∷ (expression_spelling e ++ spelling p)
spelling (If e p q) = 0x07 ∷ (expression_spelling e ++ spelling p ++ spelling q)
spelling (ExternalChoice p q) = 0x08 ∷ (spelling p ++ spelling q)
spelling (InternalChoice p q) = 0x09 ∷ (spelling p ++ spelling q)
spelling (Sequential p q) = 0x0a ∷ (spelling p ++ spelling q)
spelling (Interleaving p q) = 0x0b ∷ (spelling p ++ spelling q)
spelling (Interrupt p q) = 0x0c ∷ (spelling p ++ spelling q)
spelling (GeneralisedParallel p a q) = 0x0d ∷ (spelling p ++ event_set_spelling a ++ spelling q)
spelling (AlphabetisedParallel p a b q) = 0x0e ∷ (spelling p ++ event_set_spelling a ++ event_set_spelling b ++ spelling q)
spelling (Hiding p a) = 0x0f ∷ (spelling p ++ event_set_spelling a)
spelling (Renaming p rs) = 0x10 ∷ (spelling p ++ list_spelling pair_spelling rs)
spelling (ReplicatedExternalChoice n e p) = 0x11 ∷ (number_spelling n ++ expression_spelling e ++ spelling p)
spelling (ReplicatedInternalChoice n e p) = 0x12 ∷ (number_spelling n ++ expression_spelling e ++ spelling p)
spelling (ReplicatedInterleaving n e p) = 0x13 ∷ (number_spelling n ++ expression_spelling e ++ spelling p)
spelling (SlidingChoice p q) = 0x14 ∷ (spelling p ++ spelling q)
