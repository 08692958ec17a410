-- The terms whose numbers are in range: those of names, channels and the like are below 2 ^ 32, and whole numbers have 32 bits.
use Rattle.std.specs.Prelude.{◌<◌, ◌^◌, ⊤, FitsSigned}
use Rattle.std.specs.List.{AllByRecursion}
use Rattle.std.specs.Int.{w32}
use Rattle.theory_syntax.specs.Value.{Value, Integer, Truth, Constructor, Sequence, Set, Values, no_values, value_and}
use Rattle.theory_syntax.specs.Expression.{Expression, Literal, Name, Apply, Combine, SequenceOf, SetOf, Range, Booleans, Datatype, Nametype, ConstructorOf, Expressions, no_expressions, expression_and}
use Rattle.theory_syntax.specs.Process.{Field, Given, Input, InputFrom, EventExpression, EventSet, Enumeration, Productions, EventUnion, EventIntersection, EventDifference, RenamingPair, Process, Stop, Skip, Omega, Call, Prefix, Guard, If, ExternalChoice, InternalChoice, Sequential, Interleaving, Interrupt, GeneralisedParallel, AlphabetisedParallel, Hiding, Renaming, ReplicatedExternalChoice, ReplicatedInternalChoice, ReplicatedInterleaving, SlidingChoice}

abbrev mutual
  pub IsInRangeValue : Value → Type 0
  IsInRangeValue (Integer z) = FitsSigned w32 z
  IsInRangeValue (Truth b) = ⊤
  IsInRangeValue (Constructor k vs) = (k < 2 ^ 32) × AreInRangeValues vs
  IsInRangeValue (Sequence vs) = AreInRangeValues vs
  IsInRangeValue (Set vs) = AreInRangeValues vs

  pub AreInRangeValues : Values → Type 0
  AreInRangeValues no_values = ⊤
  AreInRangeValues (value_and v vs) = IsInRangeValue v × AreInRangeValues vs

abbrev mutual
  pub IsInRangeExpression : Expression → Type 0
  IsInRangeExpression (Literal v) = IsInRangeValue v
  IsInRangeExpression (Name n) = n < 2 ^ 32
  IsInRangeExpression (Apply op e) = IsInRangeExpression e
  IsInRangeExpression (Combine op e f) = IsInRangeExpression e × IsInRangeExpression f
  IsInRangeExpression (SequenceOf es) = AreInRangeExpressions es
  IsInRangeExpression (SetOf es) = AreInRangeExpressions es
  IsInRangeExpression (Range e f) = IsInRangeExpression e × IsInRangeExpression f
  IsInRangeExpression Booleans = ⊤
  IsInRangeExpression (Datatype d) = d < 2 ^ 32
  IsInRangeExpression (Nametype n) = n < 2 ^ 32
  IsInRangeExpression (ConstructorOf k es) = (k < 2 ^ 32) × AreInRangeExpressions es

  pub AreInRangeExpressions : Expressions → Type 0
  AreInRangeExpressions no_expressions = ⊤
  AreInRangeExpressions (expression_and e es) = IsInRangeExpression e × AreInRangeExpressions es

abbrev pub IsInRangeField : Field → Type 0
IsInRangeField (Given e) = IsInRangeExpression e
IsInRangeField (Input n) = n < 2 ^ 32
IsInRangeField (InputFrom n e) = (n < 2 ^ 32) × IsInRangeExpression e

abbrev pub IsInRangeEvent : EventExpression → Type 0
IsInRangeEvent e = (e.channel < 2 ^ 32) × AreInRangeExpressions e.fields

abbrev pub IsInRangeEventSet : EventSet → Type 0
IsInRangeEventSet (Enumeration es) = AllByRecursion IsInRangeEvent es
IsInRangeEventSet (Productions es) = AllByRecursion IsInRangeEvent es
IsInRangeEventSet (EventUnion a b) = IsInRangeEventSet a × IsInRangeEventSet b
IsInRangeEventSet (EventIntersection a b) = IsInRangeEventSet a × IsInRangeEventSet b
IsInRangeEventSet (EventDifference a b) = IsInRangeEventSet a × IsInRangeEventSet b

abbrev pub IsInRangePair : RenamingPair → Type 0
IsInRangePair r = IsInRangeEvent r.from × IsInRangeEvent r.to

abbrev pub IsInRange : Process → Type 0
IsInRange Stop = ⊤
IsInRange Skip = ⊤
IsInRange Omega = ⊤
IsInRange (Call n es) = (n < 2 ^ 32) × AreInRangeExpressions es
IsInRange (Prefix c fs p) = (c < 2 ^ 32) × AllByRecursion IsInRangeField fs × IsInRange p
IsInRange (Guard e p) = IsInRangeExpression e × IsInRange p
IsInRange (If e p q) = IsInRangeExpression e × IsInRange p × IsInRange q
IsInRange (ExternalChoice p q) = IsInRange p × IsInRange q
IsInRange (InternalChoice p q) = IsInRange p × IsInRange q
IsInRange (Sequential p q) = IsInRange p × IsInRange q
IsInRange (Interleaving p q) = IsInRange p × IsInRange q
IsInRange (Interrupt p q) = IsInRange p × IsInRange q
IsInRange (GeneralisedParallel p a q) = IsInRange p × IsInRangeEventSet a × IsInRange q
IsInRange (AlphabetisedParallel p a b q) = IsInRange p × IsInRangeEventSet a × IsInRangeEventSet b × IsInRange q
IsInRange (Hiding p a) = IsInRange p × IsInRangeEventSet a
IsInRange (Renaming p rs) = IsInRange p × AllByRecursion IsInRangePair rs
IsInRange (ReplicatedExternalChoice n e p) = (n < 2 ^ 32) × IsInRangeExpression e × IsInRange p
IsInRange (ReplicatedInternalChoice n e p) = (n < 2 ^ 32) × IsInRangeExpression e × IsInRange p
IsInRange (ReplicatedInterleaving n e p) = (n < 2 ^ 32) × IsInRangeExpression e × IsInRange p
IsInRange (SlidingChoice p q) = IsInRange p × IsInRange q
