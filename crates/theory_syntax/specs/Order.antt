-- The order of expressions and processes: by form, in the order of the declarations, then by the parts in turn.
-- Of two lists, a beginning is less than the longer list.
use Rattle.std.specs.Prelude.{ℕ}
use Rattle.std.specs.declared.cmp.Ordering.{Ordering}
use Rattle.std.specs.declared.cmp.Ordering.TheVariants.{Less, Equal, Greater}
use Rattle.std.specs.Ordering.{nat_cmp, ordering_then}
use Rattle.std.specs.Cmp.Lexicographic.{slice_cmp}
use Rattle.theory_syntax.specs.Value.{value_cmp}
use Rattle.theory_syntax.specs.Expression.{Unary, Negate, Not, Length, Head, Tail, IsNull, Card, Binary, Add, Subtract, Multiply, Modulus, Concatenate, Equals, Differs, LessThan, AtMost, GreaterThan, AtLeast, And, Or, IsElement, IsMember, Union, Intersection, Difference, Expression, Literal, Name, Apply, Combine, SequenceOf, SetOf, Range, Booleans, Datatype, Nametype, ConstructorOf, Expressions, no_expressions, expression_and}
use Rattle.theory_syntax.specs.Process.{Field, Given, Input, InputFrom, EventExpression, EventSet, Enumeration, Productions, EventUnion, EventIntersection, EventDifference, RenamingPair, Process, Stop, Skip, Omega, Call, Prefix, Guard, If, ExternalChoice, InternalChoice, Sequential, Interleaving, Interrupt, GeneralisedParallel, AlphabetisedParallel, Hiding, Renaming, ReplicatedExternalChoice, ReplicatedInternalChoice, ReplicatedInterleaving, SlidingChoice}

abbrev pub unary_place : Unary → ℕ
unary_place Negate = 0
unary_place Not = 1
unary_place Length = 2
unary_place Head = 3
unary_place Tail = 4
unary_place IsNull = 5
unary_place Card = 6

abbrev pub binary_place : Binary → ℕ
binary_place Add = 0
binary_place Subtract = 1
binary_place Multiply = 2
binary_place Modulus = 3
binary_place Concatenate = 4
binary_place Equals = 5
binary_place Differs = 6
binary_place LessThan = 7
binary_place AtMost = 8
binary_place GreaterThan = 9
binary_place AtLeast = 10
binary_place And = 11
binary_place Or = 12
binary_place IsElement = 13
binary_place IsMember = 14
binary_place Union = 15
binary_place Intersection = 16
binary_place Difference = 17

abbrev pub expression_place : Expression → ℕ
expression_place (Literal v) = 0
expression_place (Name n) = 1
expression_place (Apply op e) = 2
expression_place (Combine op e f) = 3
expression_place (SequenceOf es) = 4
expression_place (SetOf es) = 5
expression_place (Range e f) = 6
expression_place Booleans = 7
expression_place (Datatype d) = 8
expression_place (Nametype n) = 9
expression_place (ConstructorOf k es) = 10

abbrev mutual
  pub expression_cmp : Expression → Expression → Ordering
  expression_cmp (Literal v) (Literal w) = value_cmp v w
  expression_cmp (Name m) (Name n) = nat_cmp m n
  expression_cmp (Apply op e) (Apply oq f) = ordering_then (nat_cmp (unary_place op) (unary_place oq)) (expression_cmp e f)
  expression_cmp (Combine op e f) (Combine oq g h) = ordering_then (nat_cmp (binary_place op) (binary_place oq)) (ordering_then (expression_cmp e g) (expression_cmp f h))
  expression_cmp (SequenceOf es) (SequenceOf fs) = expressions_cmp es fs
  expression_cmp (SetOf es) (SetOf fs) = expressions_cmp es fs
  expression_cmp (Range e f) (Range g h) = ordering_then (expression_cmp e g) (expression_cmp f h)
  expression_cmp (Datatype m) (Datatype n) = nat_cmp m n
  expression_cmp (Nametype m) (Nametype n) = nat_cmp m n
  expression_cmp (ConstructorOf m es) (ConstructorOf n fs) = ordering_then (nat_cmp m n) (expressions_cmp es fs)
  expression_cmp e f = nat_cmp (expression_place e) (expression_place f)

  pub expressions_cmp : Expressions → Expressions → Ordering
  expressions_cmp no_expressions no_expressions = Equal
  expressions_cmp no_expressions (expression_and f fs) = Less
  expressions_cmp (expression_and e es) no_expressions = Greater
  expressions_cmp (expression_and e es) (expression_and f fs) = ordering_then (expression_cmp e f) (expressions_cmp es fs)

abbrev pub field_cmp : Field → Field → Ordering
field_cmp (Given e) (Given f) = expression_cmp e f
field_cmp (Given e) _ = Less
field_cmp (Input m) (Given f) = Greater
field_cmp (Input m) (Input n) = nat_cmp m n
field_cmp (Input m) (InputFrom n f) = Less
field_cmp (InputFrom m e) (InputFrom n f) = ordering_then (nat_cmp m n) (expression_cmp e f)
field_cmp (InputFrom m e) _ = Greater

abbrev pub event_expression_cmp : EventExpression → EventExpression → Ordering
event_expression_cmp e f = ordering_then (nat_cmp e.channel f.channel) (expressions_cmp e.fields f.fields)

abbrev pub event_set_place : EventSet → ℕ
event_set_place (Enumeration es) = 0
event_set_place (Productions es) = 1
event_set_place (EventUnion a b) = 2
event_set_place (EventIntersection a b) = 3
event_set_place (EventDifference a b) = 4

abbrev pub event_set_cmp : EventSet → EventSet → Ordering
event_set_cmp (Enumeration es) (Enumeration fs) = slice_cmp event_expression_cmp es fs
event_set_cmp (Productions es) (Productions fs) = slice_cmp event_expression_cmp es fs
event_set_cmp (EventUnion a b) (EventUnion c d) = ordering_then (event_set_cmp a c) (event_set_cmp b d)
event_set_cmp (EventIntersection a b) (EventIntersection c d) = ordering_then (event_set_cmp a c) (event_set_cmp b d)
event_set_cmp (EventDifference a b) (EventDifference c d) = ordering_then (event_set_cmp a c) (event_set_cmp b d)
event_set_cmp a b = nat_cmp (event_set_place a) (event_set_place b)

abbrev pub pair_cmp : RenamingPair → RenamingPair → Ordering
pair_cmp r s = ordering_then (event_expression_cmp r.from s.from) (event_expression_cmp r.to s.to)

abbrev pub process_place : Process → ℕ
process_place Stop = 0
process_place Skip = 1
process_place Omega = 2
process_place (Call n es) = 3
process_place (Prefix c fs p) = 4
process_place (Guard e p) = 5
process_place (If e p q) = 6
process_place (ExternalChoice p q) = 7
process_place (InternalChoice p q) = 8
process_place (Sequential p q) = 9
process_place (Interleaving p q) = 10
process_place (Interrupt p q) = 11
process_place (GeneralisedParallel p a q) = 12
process_place (AlphabetisedParallel p a b q) = 13
process_place (Hiding p a) = 14
process_place (Renaming p rs) = 15
process_place (ReplicatedExternalChoice n e p) = 16
process_place (ReplicatedInternalChoice n e p) = 17
process_place (ReplicatedInterleaving n e p) = 18
process_place (SlidingChoice p q) = 19

abbrev pub process_cmp : Process → Process → Ordering
process_cmp (Call m es) (Call n fs) = ordering_then (nat_cmp m n) (expressions_cmp es fs)
process_cmp (Prefix c fs p) (Prefix d gs q) = ordering_then (nat_cmp c d) (ordering_then (slice_cmp field_cmp fs gs) (process_cmp p q))
process_cmp (Guard e p) (Guard f q) = ordering_then (expression_cmp e f) (process_cmp p q)
process_cmp (If e p q) (If f r s) = ordering_then (expression_cmp e f) (ordering_then (process_cmp p r) (process_cmp q s))
process_cmp (ExternalChoice p q) (ExternalChoice r s) = ordering_then (process_cmp p r) (process_cmp q s)
process_cmp (InternalChoice p q) (InternalChoice r s) = ordering_then (process_cmp p r) (process_cmp q s)
process_cmp (Sequential p q) (Sequential r s) = ordering_then (process_cmp p r) (process_cmp q s)
process_cmp (Interleaving p q) (Interleaving r s) = ordering_then (process_cmp p r) (process_cmp q s)
process_cmp (Interrupt p q) (Interrupt r s) = ordering_then (process_cmp p r) (process_cmp q s)
process_cmp (GeneralisedParallel p a q) (GeneralisedParallel r b s) = ordering_then (process_cmp p r) (ordering_then (event_set_cmp a b) (process_cmp q s))
process_cmp (AlphabetisedParallel p a b q) (AlphabetisedParallel r c d s) =
    ordering_then (process_cmp p r) (ordering_then (event_set_cmp a c) (ordering_then (event_set_cmp b d) (process_cmp q s)))
process_cmp (Hiding p a) (Hiding q b) = ordering_then (process_cmp p q) (event_set_cmp a b)
process_cmp (Renaming p rs) (Renaming q ss) = ordering_then (process_cmp p q) (slice_cmp pair_cmp rs ss)
process_cmp (ReplicatedExternalChoice m e p) (ReplicatedExternalChoice n f q) = ordering_then (nat_cmp m n) (ordering_then (expression_cmp e f) (process_cmp p q))
process_cmp (ReplicatedInternalChoice m e p) (ReplicatedInternalChoice n f q) = ordering_then (nat_cmp m n) (ordering_then (expression_cmp e f) (process_cmp p q))
process_cmp (ReplicatedInterleaving m e p) (ReplicatedInterleaving n f q) = ordering_then (nat_cmp m n) (ordering_then (expression_cmp e f) (process_cmp p q))
process_cmp (SlidingChoice p q) (SlidingChoice r s) = ordering_then (process_cmp p r) (process_cmp q s)
process_cmp p q = nat_cmp (process_place p) (process_place q)
