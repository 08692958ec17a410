-- The lists of a term have no more items than the term has nodes.
use Rattle.std.specs.List.{AllByRecursion}
use Rattle.std.proofs.Common.{◌≡◌, ◌^◌, ◌<◌, ◌≤◌, nat_le, true, List, [], ◌∷◌, length, subst, arith}
use Rattle.std.proofs.lemmas.Bool.{and_parts, leb-true}
use Rattle.theory_syntax.specs.Value.{Value, Integer, Truth, Constructor, Sequence, Set, Values, no_values, value_and, values_list, Action}
use Rattle.theory_syntax.specs.Expression.{Expression, Literal, Name, Apply, Combine, SequenceOf, SetOf, Range, Booleans, Datatype, Nametype, ConstructorOf, Expressions, no_expressions, expression_and, expressions_list}
use Rattle.theory_syntax.specs.Process.{Field, Given, Input, InputFrom, EventExpression, EventSet, Enumeration, Productions, EventUnion, EventIntersection, EventDifference, RenamingPair, Process, Stop, Skip, Omega, Call, Prefix, Guard, If, ExternalChoice, InternalChoice, Sequential, Interleaving, Interrupt, GeneralisedParallel, AlphabetisedParallel, Hiding, Renaming, ReplicatedExternalChoice, ReplicatedInternalChoice, ReplicatedInterleaving, SlidingChoice, Script}
use Rattle.theory_semantics.specs.Meaning.Limits.{value_size, values_size, expression_size, expressions_size, fields_size, events_size, event_set_size, pairs_size, size, depth, max_size, max_depth, fits}
use Rattle.theory_semantics.specs.Meaning.Transitions.{Step}
use Rattle.theory_semantics.specs.Meaning.Runs.{Run}
use Rattle.theory_spelling.specs.Packable.{IsPackableValue, ArePackableValues, IsPackableExpression, ArePackableExpressions, IsPackableField, IsPackableEvent, IsPackableEventSet, IsPackablePair, IsPackable}

-- ---- values

value_counts : (v : Value) → 1 ≤ value_size v
value_counts (Integer z) = omega arith
value_counts (Truth b) = omega arith
value_counts (Constructor k vs) = omega arith
value_counts (Sequence vs) = omega arith
value_counts (Set vs) = omega arith

values_count : (vs : Values) → length (values_list vs) ≤ values_size vs
values_count no_values = omega arith
values_count (value_and v vs) = let one = value_counts v in let more = values_count vs in omega (arith, one, more)

mutual
  value_short : (v : Value) → value_size v < 2 ^ 32 → IsPackableValue v
  value_short (Integer z) h = tt
  value_short (Truth b) h = tt
  value_short (Constructor k vs) h = let n = values_count vs in (omega (arith, n, h), values_short vs (omega (arith, h)))
  value_short (Sequence vs) h = let n = values_count vs in (omega (arith, n, h), values_short vs (omega (arith, h)))
  value_short (Set vs) h = let n = values_count vs in (omega (arith, n, h), values_short vs (omega (arith, h)))

  values_short : (vs : Values) → values_size vs < 2 ^ 32 → ArePackableValues vs
  values_short no_values h = tt
  values_short (value_and v vs) h = (value_short v (omega (arith, h)), values_short vs (omega (arith, h)))

-- ---- expressions

expression_counts : (e : Expression) → 1 ≤ expression_size e
expression_counts (Literal v) = value_counts v
expression_counts (Name n) = omega arith
expression_counts (Apply op e) = omega arith
expression_counts (Combine op e f) = omega arith
expression_counts (SequenceOf es) = omega arith
expression_counts (SetOf es) = omega arith
expression_counts (Range e f) = omega arith
expression_counts Booleans = omega arith
expression_counts (Datatype d) = omega arith
expression_counts (Nametype n) = omega arith
expression_counts (ConstructorOf k es) = omega arith

expressions_count : (es : Expressions) → length (expressions_list es) ≤ expressions_size es
expressions_count no_expressions = omega arith
expressions_count (expression_and e es) = let one = expression_counts e in let more = expressions_count es in omega (arith, one, more)

mutual
  expression_short : (e : Expression) → expression_size e < 2 ^ 32 → IsPackableExpression e
  expression_short (Literal v) h = value_short v h
  expression_short (Name n) h = tt
  expression_short (Apply op e) h = expression_short e (omega (arith, h))
  expression_short (Combine op e f) h = (expression_short e (omega (arith, h)), expression_short f (omega (arith, h)))
  expression_short (SequenceOf es) h = let n = expressions_count es in (omega (arith, n, h), expressions_short es (omega (arith, h)))
  expression_short (SetOf es) h = let n = expressions_count es in (omega (arith, n, h), expressions_short es (omega (arith, h)))
  expression_short (Range e f) h = (expression_short e (omega (arith, h)), expression_short f (omega (arith, h)))
  expression_short Booleans h = tt
  expression_short (Datatype d) h = tt
  expression_short (Nametype n) h = tt
  expression_short (ConstructorOf k es) h = let n = expressions_count es in (omega (arith, n, h), expressions_short es (omega (arith, h)))

  expressions_short : (es : Expressions) → expressions_size es < 2 ^ 32 → ArePackableExpressions es
  expressions_short no_expressions h = tt
  expressions_short (expression_and e es) h = (expression_short e (omega (arith, h)), expressions_short es (omega (arith, h)))

arguments_short : (es : Expressions) → expressions_size es < 2 ^ 32 → (length (expressions_list es) < 2 ^ 32) × ArePackableExpressions es
arguments_short es h = let n = expressions_count es in (omega (arith, n, h), expressions_short es h)

-- ---- fields, events and sets of events

fields_count : (fs : List Field) → length fs ≤ fields_size fs
fields_count [] = omega arith
fields_count (Given e ∷ fs) = let more = fields_count fs in omega (arith, more)
fields_count (Input n ∷ fs) = let more = fields_count fs in omega (arith, more)
fields_count (InputFrom n e ∷ fs) = let more = fields_count fs in omega (arith, more)

fields_short : (fs : List Field) → fields_size fs < 2 ^ 32 → AllByRecursion IsPackableField fs
fields_short [] h = tt
fields_short (Given e ∷ fs) h = (expression_short e (omega (arith, h)), fields_short fs (omega (arith, h)))
fields_short (Input n ∷ fs) h = (tt, fields_short fs (omega (arith, h)))
fields_short (InputFrom n e ∷ fs) h = (expression_short e (omega (arith, h)), fields_short fs (omega (arith, h)))

events_count : (es : List EventExpression) → length es ≤ events_size es
events_count [] = omega arith
events_count (e ∷ es) = let more = events_count es in omega (arith, more)

events_short : (es : List EventExpression) → events_size es < 2 ^ 32 → AllByRecursion IsPackableEvent es
events_short [] h = tt
events_short (e ∷ es) h = (arguments_short e.fields (omega (arith, h)), events_short es (omega (arith, h)))

event_set_short : (a : EventSet) → event_set_size a < 2 ^ 32 → IsPackableEventSet a
event_set_short (Enumeration es) h = let n = events_count es in (omega (arith, n, h), events_short es (omega (arith, h)))
event_set_short (Productions es) h = let n = events_count es in (omega (arith, n, h), events_short es (omega (arith, h)))
event_set_short (EventUnion a b) h = (event_set_short a (omega (arith, h)), event_set_short b (omega (arith, h)))
event_set_short (EventIntersection a b) h = (event_set_short a (omega (arith, h)), event_set_short b (omega (arith, h)))
event_set_short (EventDifference a b) h = (event_set_short a (omega (arith, h)), event_set_short b (omega (arith, h)))

pairs_count : (rs : List RenamingPair) → length rs ≤ pairs_size rs
pairs_count [] = omega arith
pairs_count (r ∷ rs) = let more = pairs_count rs in omega (arith, more)

pairs_short : (rs : List RenamingPair) → pairs_size rs < 2 ^ 32 → AllByRecursion IsPackablePair rs
pairs_short [] h = tt
pairs_short (r ∷ rs) h = ((arguments_short r.from.fields (omega (arith, h)), arguments_short r.to.fields (omega (arith, h))), pairs_short rs (omega (arith, h)))

-- ---- processes

pub short : (p : Process) → size p < 2 ^ 32 → IsPackable p
short Stop h = tt
short Skip h = tt
short Omega h = tt
short (Call n es) h = arguments_short es (omega (arith, h))
short (Prefix c fs p) h = let n = fields_count fs in ((omega (arith, n, h), fields_short fs (omega (arith, h))), short p (omega (arith, h)))
short (Guard e p) h = (expression_short e (omega (arith, h)), short p (omega (arith, h)))
short (If e p q) h = (expression_short e (omega (arith, h)), short p (omega (arith, h)), short q (omega (arith, h)))
short (ExternalChoice p q) h = (short p (omega (arith, h)), short q (omega (arith, h)))
short (InternalChoice p q) h = (short p (omega (arith, h)), short q (omega (arith, h)))
short (Sequential p q) h = (short p (omega (arith, h)), short q (omega (arith, h)))
short (Interleaving p q) h = (short p (omega (arith, h)), short q (omega (arith, h)))
short (Interrupt p q) h = (short p (omega (arith, h)), short q (omega (arith, h)))
short (GeneralisedParallel p a q) h = (short p (omega (arith, h)), event_set_short a (omega (arith, h)), short q (omega (arith, h)))
short (AlphabetisedParallel p a b q) h = (short p (omega (arith, h)), event_set_short a (omega (arith, h)), event_set_short b (omega (arith, h)), short q (omega (arith, h)))
short (Hiding p a) h = (short p (omega (arith, h)), event_set_short a (omega (arith, h)))
short (Renaming p rs) h = let n = pairs_count rs in (short p (omega (arith, h)), (omega (arith, n, h), pairs_short rs (omega (arith, h))))
short (ReplicatedExternalChoice n e p) h = (expression_short e (omega (arith, h)), short p (omega (arith, h)))
short (ReplicatedInternalChoice n e p) h = (expression_short e (omega (arith, h)), short p (omega (arith, h)))
short (ReplicatedInterleaving n e p) h = (expression_short e (omega (arith, h)), short p (omega (arith, h)))
short (SlidingChoice p q) h = (short p (omega (arith, h)), short q (omega (arith, h)))

-- a term within the limits has short lists
pub within_is_short : (p : Process) → fits p ≡ true → IsPackable p
within_is_short p e = let few : size p ≤ max_size = leb-true (size p) max_size (and_parts (nat_le (size p) max_size) (nat_le (depth p) max_depth) e).0 in short p (omega (arith, few))

-- ---- what a term reaches

pub target_is_short : (script : Script) (t : Process) (x : Action) (u : Process) → Step script t x u → IsPackable u
target_is_short script t x u step = within_is_short u (step.0.targets x u step.1)

pub reached_is_short : (script : Script) (path : List Action) (t u : Process) → Run script t path u → IsPackable t → IsPackable u
reached_is_short script [] t u run h = subst IsPackable run h
reached_is_short script (x ∷ path) t u run h = reached_is_short script path run.0 u run.2 (target_is_short script t x run.0 run.1)
