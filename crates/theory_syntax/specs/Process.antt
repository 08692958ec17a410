-- Processes, equations, scripts and assertions, as trees. The forms are those of CSPM (Roscoe; FDR manual).
use Rattle.std.specs.Prelude.{ℕ, Bool, List, Option, Some, None}
use Rattle.theory_syntax.specs.Value.{Value}
use Rattle.theory_syntax.specs.Expression.{Expression, Expressions}
use Rattle.theory_syntax.specs.Types.{Types}

-- A field of a prefix: `.e` or `!e`, `?x`, and `?x:S`.
pub data Field : Type 0 where
  Given : (value : Expression) → Field
  Input : (name : ℕ) → Field
  InputFrom : (name : ℕ) (set : Expression) → Field

-- A channel with expressions, as `c` or `c.e.f`.
pub record EventExpression : Type 0 where
  pub channel : ℕ
  pub fields : Expressions

-- `{ev, ..}`, `{| c.e, .. |}`, and union, inter and diff of two.
pub data EventSet : Type 0 where
  Enumeration : (events : List EventExpression) → EventSet
  Productions : (events : List EventExpression) → EventSet
  EventUnion EventIntersection EventDifference : (left right : EventSet) → EventSet

-- `from <- to`
pub record RenamingPair : Type 0 where
  pub from : EventExpression
  pub to : EventExpression

-- Omega is the ended process, which no script can write.
pub data Process : Type 0 where
  Stop : Process
  Skip : Process
  Omega : Process
  Call : (equation : ℕ) (arguments : Expressions) → Process
  Prefix : (channel : ℕ) (fields : List Field) (body : Process) → Process
  Guard : (condition : Expression) (body : Process) → Process
  If : (condition : Expression) (first second : Process) → Process
  ExternalChoice : (left right : Process) → Process
  InternalChoice : (left right : Process) → Process
  Sequential : (left right : Process) → Process
  Interleaving : (left right : Process) → Process
  Interrupt : (left right : Process) → Process
  GeneralisedParallel : (left : Process) (shared : EventSet) (right : Process) → Process
  AlphabetisedParallel : (left : Process) (left_events right_events : EventSet) (right : Process) → Process
  Hiding : (body : Process) (hidden : EventSet) → Process
  Renaming : (body : Process) (pairs : List RenamingPair) → Process
  ReplicatedExternalChoice : (name : ℕ) (set : Expression) (body : Process) → Process
  ReplicatedInternalChoice : (name : ℕ) (set : Expression) (body : Process) → Process
  ReplicatedInterleaving : (name : ℕ) (set : Expression) (body : Process) → Process
  SlidingChoice : (left right : Process) → Process

-- `name(parameters) = body`
pub record Equation : Type 0 where
  pub parameters : List ℕ
  pub body : Process

-- traces refinement `[T=`, or failures refinement `[F=`
pub data Model : Type 0 where
  Traces : Model
  Failures : Model

-- What an assertion asks of its implementation: that it refines a specification, `:[deadlock free]`, or `:[divergence free]`.
pub data Property : Type 0 where
  RefinementOf : (model : Model) (specification : Process) → Property
  DeadlockFree : Property
  DivergenceFree : Property

-- With `not` an assertion asks that the implementation does not have the property.
pub record Assertion : Type 0 where
  pub negated : Bool
  pub property : Property
  pub implementation : Process

-- the process that the implementation is compared with, if there is one
abbrev pub specification_of : Property → Option Process
specification_of (RefinementOf model spec) = Some spec
specification_of DeadlockFree = None
specification_of DivergenceFree = None

-- How a called name is read: it does a tau to the body of its equation, or the body stands in its place at once.
pub data Unfolding : Type 0 where
  ByTau : Unfolding
  AtOnce : Unfolding

-- A script: its types, the field sets of each channel, its equations and assertions, each in the order of the text,
-- the spellings of its channels and constructors, and how its names are read. A field set is the list of its values, rising.
pub record Script : Type 0 where
  pub types : Types
  pub channels : List (List (List Value))
  pub equations : List Equation
  pub assertions : List Assertion
  pub channel_names : List (List ℕ)
  pub constructor_names : List (List ℕ)
  pub unfolds : Unfolding
