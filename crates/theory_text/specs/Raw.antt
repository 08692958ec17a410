-- Scripts as they are written, before their names are looked up. Brackets leave no mark.
use Rattle.std.specs.Prelude.{ℕ, Bool, List}
use Rattle.theory_syntax.specs.Expression.{Unary, Binary}
use Rattle.theory_syntax.specs.Process.{Model}
use Rattle.theory_text.specs.Place.{Place}

-- a name with the place of its token
pub record RawName : Type 0 where
  pub spelling : List ℕ
  pub place : Place

mutual
  pub data RawExpression : Type 0 where
    RawNumber : (value : ℕ) → RawExpression
    RawTruth : (value : Bool) → RawExpression
    RawBooleans : RawExpression
    RawUse : (name : RawName) → RawExpression
    RawApply : (operator : Unary) (operand : RawExpression) → RawExpression
    RawCombine : (operator : Binary) (left right : RawExpression) → RawExpression
    RawSequence : (items : RawExpressions) → RawExpression
    RawSet : (members : RawExpressions) → RawExpression
    RawRange : (from to : RawExpression) → RawExpression
    RawConstructor : (constructor : RawName) (fields : RawExpressions) → RawExpression

  -- a list of expressions
  pub data RawExpressions : Type 0 where
    no_raw_expressions : RawExpressions
    raw_expression_and : (first : RawExpression) (rest : RawExpressions) → RawExpressions

-- A field of a prefix: `.e` or `!e`, `?x`, and `?x:S`.
pub data RawField : Type 0 where
  RawGiven : (value : RawExpression) → RawField
  RawInput : (name : RawName) → RawField
  RawInputFrom : (name : RawName) (set : RawExpression) → RawField

-- `c`, `c.e.f`
pub record RawEvent : Type 0 where
  pub channel : RawName
  pub fields : RawExpressions

-- `{ev, ..}`, `{| c.e, .. |}`, and union, inter and diff of two.
pub data RawEventSet : Type 0 where
  RawEnumeration : (events : List RawEvent) → RawEventSet
  RawProductions : (events : List RawEvent) → RawEventSet
  RawEventUnion RawEventIntersection RawEventDifference : (left right : RawEventSet) → RawEventSet

-- `from <- to`
pub record RawPair : Type 0 where
  pub from : RawEvent
  pub to : RawEvent

-- `[]`, `|~|`, `;`, `|||`, `/\`, `[>`
pub data Infix : Type 0 where
  ExternalInfix InternalInfix SequentialInfix InterleavingInfix InterruptInfix SlidingInfix : Infix

-- `[]`, `|~|`, `|||` over a set
pub data Replicator : Type 0 where
  ExternalReplicator InternalReplicator InterleavingReplicator : Replicator

-- A call without arguments is written as the bare name.
pub data RawProcess : Type 0 where
  RawStop : RawProcess
  RawSkip : RawProcess
  RawCall : (equation : RawName) (arguments : RawExpressions) → RawProcess
  RawPrefix : (channel : RawName) (fields : List RawField) (body : RawProcess) → RawProcess
  RawGuard : (condition : RawExpression) (body : RawProcess) → RawProcess
  RawIf : (condition : RawExpression) (first second : RawProcess) → RawProcess
  RawInfix : (operator : Infix) (left right : RawProcess) → RawProcess
  RawGeneralisedParallel : (left : RawProcess) (shared : RawEventSet) (right : RawProcess) → RawProcess
  RawAlphabetisedParallel : (left : RawProcess) (left_events right_events : RawEventSet) (right : RawProcess) → RawProcess
  RawHiding : (body : RawProcess) (hidden : RawEventSet) → RawProcess
  RawRenaming : (body : RawProcess) (pairs : List RawPair) → RawProcess
  RawReplicated : (operator : Replicator) (name : RawName) (set : RawExpression) (body : RawProcess) → RawProcess

-- the set of a nametype or of a field, with the place of its first token
pub record RawDomain : Type 0 where
  pub place : Place
  pub set : RawExpression

-- a constructor of a datatype, with the sets of its fields
pub record RawClause : Type 0 where
  pub name : RawName
  pub fields : List RawDomain

-- What an assertion asks: refinement of a specification, `:[deadlock free]`, or `:[divergence free]`.
pub data RawProperty : Type 0 where
  RawRefinementOf : (model : Model) (specification : RawProcess) → RawProperty
  RawDeadlockFree : RawProperty
  RawDivergenceFree : RawProperty

-- A declaration. An equation begins with its name, so only an assertion needs the place of its first token.
pub data RawDeclaration : Type 0 where
  RawDatatype : (name : RawName) (clauses : List RawClause) → RawDeclaration
  RawNametype : (name : RawName) (domain : RawDomain) → RawDeclaration
  RawChannels : (names : List RawName) (domains : List RawDomain) → RawDeclaration
  RawEquation : (name : RawName) (parameters : List RawName) (body : RawProcess) → RawDeclaration
  RawAssertion : (place : Place) (negated : Bool) (property : RawProperty) (implementation : RawProcess) → RawDeclaration

-- the declarations of a script, in the order of the text
abbrev pub RawScript : Type 0
RawScript = List RawDeclaration
