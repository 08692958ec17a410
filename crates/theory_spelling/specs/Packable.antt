-- The terms that have no list of 2 ^ 32 items or more.
use Rattle.std.specs.Prelude.{⊤, List}
use Rattle.std.specs.List.{AllByRecursion}
use Rattle.theory_syntax.specs.Value.{Value, Integer, Truth, Constructor, Sequence, Set, Values, no_values, value_and, values_list}
use Rattle.theory_syntax.specs.Expression.{Expression, Literal, Name, Apply, Combine, SequenceOf, SetOf, Range, Booleans, Datatype, Nametype, ConstructorOf, Expressions, no_expressions, expression_and, expressions_list}
use Rattle.theory_syntax.specs.Process.{Field, Given, Input, InputFrom, EventExpression, EventSet, Enumeration, Productions, EventUnion, EventIntersection, EventDifference, RenamingPair, Process, Stop, Skip, Omega, Call, Prefix, Guard, If, ExternalChoice, InternalChoice, Sequential, Interleaving, Interrupt, GeneralisedParallel, AlphabetisedParallel, Hiding, Renaming, ReplicatedExternalChoice, ReplicatedInternalChoice, ReplicatedInterleaving, SlidingChoice}
use Rattle.theory_spelling.specs.Spellable.{IsShort}

abbrev mutual
  pub IsPackableValue : Value → Type 0
  IsPackableValue (Integer z) = ⊤
  IsPackableValue (Truth b) = ⊤
  IsPackableValue (Constructor k vs) = IsShort (values_list vs) × ArePackableValues vs
  IsPackableValue (Sequence vs) = IsShort (values_list vs) × ArePackableValues vs
  IsPackableValue (Set vs) = IsShort (values_list vs) × ArePackableValues vs

  pub ArePackableValues : Values → Type 0
  ArePackableValues no_values = ⊤
  ArePackableValues (value_and v vs) = IsPackableValue v × ArePackableValues vs

abbrev mutual
  pub IsPackableExpression : Expression → Type 0
  IsPackableExpression (Literal v) = IsPackableValue v
  IsPackableExpression (Name n) = ⊤
  IsPackableExpression (Apply op e) = IsPackableExpression e
  IsPackableExpression (Combine op e f) = IsPackableExpression e × IsPackableExpression f
  IsPackableExpression (SequenceOf es) = IsShort (expressions_list es) × ArePackableExpressions es
  IsPackableExpression (SetOf es) = IsShort (expressions_list es) × ArePackableExpressions es
  IsPackableExpression (Range e f) = IsPackableExpression e × IsPackableExpression f
  IsPackableExpression Booleans = ⊤
  IsPackableExpression (Datatype d) = ⊤
  IsPackableExpression (Nametype n) = ⊤
  IsPackableExpression (ConstructorOf k es) = IsShort (expressions_list es) × ArePackableExpressions es

  pub ArePackableExpressions : Expressions → Type 0
  ArePackableExpressions no_expressions = ⊤
  ArePackableExpressions (expression_and e es) = IsPackableExpression e × ArePackableExpressions es

-- a list of fewer than 2 ^ 32 items, each of them so
abbrev pub IsPackableList : {X : Type 0} → (X → Type 0) → List X → Type 0
IsPackableList each xs = IsShort xs × AllByRecursion each xs

abbrev pub ArePackableArguments : Expressions → Type 0
ArePackableArguments es = IsShort (expressions_list es) × ArePackableExpressions es

abbrev pub IsPackableField : Field → Type 0
IsPackableField (Given e) = IsPackableExpression e
IsPackableField (Input n) = ⊤
IsPackableField (InputFrom n e) = IsPackableExpression e

abbrev pub IsPackableEvent : EventExpression → Type 0
IsPackableEvent e = ArePackableArguments e.fields

abbrev pub IsPackableEventSet : EventSet → Type 0
IsPackableEventSet (Enumeration es) = IsPackableList IsPackableEvent es
IsPackableEventSet (Productions es) = IsPackableList IsPackableEvent es
IsPackableEventSet (EventUnion a b) = IsPackableEventSet a × IsPackableEventSet b
IsPackableEventSet (EventIntersection a b) = IsPackableEventSet a × IsPackableEventSet b
IsPackableEventSet (EventDifference a b) = IsPackableEventSet a × IsPackableEventSet b

abbrev pub IsPackablePair : RenamingPair → Type 0
IsPackablePair r = IsPackableEvent r.from × IsPackableEvent r.to

abbrev pub IsPackable : Process → Type 0
IsPackable Stop = ⊤
IsPackable Skip = ⊤
IsPackable Omega = ⊤
IsPackable (Call n es) = ArePackableArguments es
IsPackable (Prefix c fs p) = IsPackableList IsPackableField fs × IsPackable p
IsPackable (Guard e p) = IsPackableExpression e × IsPackable p
IsPackable (If e p q) = IsPackableExpression e × IsPackable p × IsPackable q
IsPackable (ExternalChoice p q) = IsPackable p × IsPackable q
IsPackable (InternalChoice p q) = IsPackable p × IsPackable q
IsPackable (Sequential p q) = IsPackable p × IsPackable q
IsPackable (Interleaving p q) = IsPackable p × IsPackable q
IsPackable (Interrupt p q) = IsPackable p × IsPackable q
IsPackable (GeneralisedParallel p a q) = IsPackable p × IsPackableEventSet a × IsPackable q
IsPackable (AlphabetisedParallel p a b q) = IsPackable p × IsPackableEventSet a × IsPackableEventSet b × IsPackable q
IsPackable (Hiding p a) = IsPackable p × IsPackableEventSet a
IsPackable (Renaming p rs) = IsPackable p × IsPackableList IsPackablePair rs
IsPackable (ReplicatedExternalChoice n e p) = IsPackableExpression e × IsPackable p
IsPackable (ReplicatedInternalChoice n e p) = IsPackableExpression e × IsPackable p
IsPackable (ReplicatedInterleaving n e p) = IsPackableExpression e × IsPackable p
IsPackable (SlidingChoice p q) = IsPackable p × IsPackable q
