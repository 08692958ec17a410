-- The terms that have a spelling of their own: their numbers are below 2 ^ 32, their whole numbers are of 32 bits, their
-- lists have fewer than 2 ^ 32 items, and the members of their sets rise. And, of all terms, those with such lists.
use Rattle.std.specs.Prelude.{◌<◌, ◌^◌, ⊤, List, length, FitsSigned}
use Rattle.std.specs.List.{AllByRecursion}
use Rattle.std.specs.Int.{w32}
use Rattle.theory_syntax.specs.Value.{Value, Integer, Truth, Constructor, Sequence, Set, Values, no_values, value_and, values_list, value_cmp}
use Rattle.theory_syntax.specs.Expression.{Expression, Literal, Name, Apply, Combine, SequenceOf, SetOf, Range, Booleans, Datatype, Nametype, ConstructorOf, Expressions, no_expressions, expression_and, expressions_list}
use Rattle.theory_syntax.specs.Process.{Field, Given, Input, InputFrom, EventExpression, EventSet, Enumeration, Productions, EventUnion, EventIntersection, EventDifference, RenamingPair, Process, Stop, Skip, Omega, Call, Prefix, Guard, If, ExternalChoice, InternalChoice, Sequential, Interleaving, Interrupt, GeneralisedParallel, AlphabetisedParallel, Hiding, Renaming, ReplicatedExternalChoice, ReplicatedInternalChoice, ReplicatedInterleaving, SlidingChoice}
use Rattle.theory_semantics.specs.Meaning.Offers.{RisesBy}

-- the list has fewer than 2 ^ 32 items
abbrev pub IsShort : {X : Type 0} → List X → Type 0
IsShort xs = length xs < 2 ^ 32

abbrev mutual
  pub IsSpellableValue : Value → Type 0
  IsSpellableValue (Integer z) = FitsSigned w32 z
  IsSpellableValue (Truth b) = ⊤
  IsSpellableValue (Constructor k vs) = (k < 2 ^ 32) × (IsShort (values_list vs) × AreSpellableValues vs)
  IsSpellableValue (Sequence vs) = IsShort (values_list vs) × AreSpellableValues vs
  IsSpellableValue (Set vs) = IsShort (values_list vs) × AreSpellableValues vs × RisesBy value_cmp (values_list vs)

  pub AreSpellableValues : Values → Type 0
  AreSpellableValues no_values = ⊤
  AreSpellableValues (value_and v vs) = IsSpellableValue v × AreSpellableValues vs

abbrev mutual
  pub IsSpellableExpression : Expression → Type 0
  IsSpellableExpression (Literal v) = IsSpellableValue v
  IsSpellableExpression (Name n) = n < 2 ^ 32
  IsSpellableExpression (Apply op e) = IsSpellableExpression e
  IsSpellableExpression (Combine op e f) = IsSpellableExpression e × IsSpellableExpression f
  IsSpellableExpression (SequenceOf es) = IsShort (expressions_list es) × AreSpellableExpressions es
  IsSpellableExpression (SetOf es) = IsShort (expressions_list es) × AreSpellableExpressions es
  IsSpellableExpression (Range e f) = IsSpellableExpression e × IsSpellableExpression f
  IsSpellableExpression Booleans = ⊤
  IsSpellableExpression (Datatype d) = d < 2 ^ 32
  IsSpellableExpression (Nametype n) = n < 2 ^ 32
  IsSpellableExpression (ConstructorOf k es) = (k < 2 ^ 32) × (IsShort (expressions_list es) × AreSpellableExpressions es)

  pub AreSpellableExpressions : Expressions → Type 0
  AreSpellableExpressions no_expressions = ⊤
  AreSpellableExpressions (expression_and e es) = IsSpellableExpression e × AreSpellableExpressions es

abbrev pub AreSpellableArguments : Expressions → Type 0
AreSpellableArguments es = IsShort (expressions_list es) × AreSpellableExpressions es

-- a short list of what is spellable
abbrev pub IsSpellableList : {X : Type 0} → (X → Type 0) → List X → Type 0
IsSpellableList each xs = IsShort xs × AllByRecursion each xs

abbrev pub IsSpellableField : Field → Type 0
IsSpellableField (Given e) = IsSpellableExpression e
IsSpellableField (Input n) = n < 2 ^ 32
IsSpellableField (InputFrom n e) = (n < 2 ^ 32) × IsSpellableExpression e

abbrev pub IsSpellableEvent : EventExpression → Type 0
IsSpellableEvent e = (e.channel < 2 ^ 32) × AreSpellableArguments e.fields

abbrev pub IsSpellableEventSet : EventSet → Type 0
IsSpellableEventSet (Enumeration es) = IsSpellableList IsSpellableEvent es
IsSpellableEventSet (Productions es) = IsSpellableList IsSpellableEvent es
IsSpellableEventSet (EventUnion a b) = IsSpellableEventSet a × IsSpellableEventSet b
IsSpellableEventSet (EventIntersection a b) = IsSpellableEventSet a × IsSpellableEventSet b
IsSpellableEventSet (EventDifference a b) = IsSpellableEventSet a × IsSpellableEventSet b

abbrev pub IsSpellablePair : RenamingPair → Type 0
IsSpellablePair r = IsSpellableEvent r.from × IsSpellableEvent r.to

abbrev pub IsSpellable : Process → Type 0
IsSpellable Stop = ⊤
IsSpellable Skip = ⊤
IsSpellable Omega = ⊤
IsSpellable (Call n es) = (n < 2 ^ 32) × AreSpellableArguments es
IsSpellable (Prefix c fs p) = (c < 2 ^ 32) × IsSpellableList IsSpellableField fs × IsSpellable p
IsSpellable (Guard e p) = IsSpellableExpression e × IsSpellable p
IsSpellable (If e p q) = IsSpellableExpression e × IsSpellable p × IsSpellable q
IsSpellable (ExternalChoice p q) = IsSpellable p × IsSpellable q
IsSpellable (InternalChoice p q) = IsSpellable p × IsSpellable q
IsSpellable (Sequential p q) = IsSpellable p × IsSpellable q
IsSpellable (Interleaving p q) = IsSpellable p × IsSpellable q
IsSpellable (Interrupt p q) = IsSpellable p × IsSpellable q
IsSpellable (GeneralisedParallel p a q) = IsSpellable p × IsSpellableEventSet a × IsSpellable q
IsSpellable (AlphabetisedParallel p a b q) = IsSpellable p × IsSpellableEventSet a × IsSpellableEventSet b × IsSpellable q
IsSpellable (Hiding p a) = IsSpellable p × IsSpellableEventSet a
IsSpellable (Renaming p rs) = IsSpellable p × IsSpellableList IsSpellablePair rs
IsSpellable (ReplicatedExternalChoice n e p) = (n < 2 ^ 32) × IsSpellableExpression e × IsSpellable p
IsSpellable (ReplicatedInternalChoice n e p) = (n < 2 ^ 32) × IsSpellableExpression e × IsSpellable p
IsSpellable (ReplicatedInterleaving n e p) = (n < 2 ^ 32) × IsSpellableExpression e × IsSpellable p
IsSpellable (SlidingChoice p q) = IsSpellable p × IsSpellable q
