-- The size and the depth of a term, and the limits.
use Rattle.std.specs.Prelude.{ℕ, ◌+◌, max, nat_le, Bool, ◌&&◌, List, [], ◌∷◌}
use Rattle.theory_syntax.specs.Value.{Value, Integer, Truth, Constructor, Sequence, Set, Values, no_values, value_and}
use Rattle.theory_syntax.specs.Expression.{Expression, Literal, Name, Apply, Combine, SequenceOf, SetOf, Range, Booleans, Datatype, Nametype, ConstructorOf, Expressions, no_expressions, expression_and}
use Rattle.theory_syntax.specs.Process.{Field, Given, Input, InputFrom, EventExpression, EventSet, Enumeration, Productions, EventUnion, EventIntersection, EventDifference, RenamingPair, Process, Stop, Skip, Omega, Call, Prefix, Guard, If, ExternalChoice, InternalChoice, Sequential, Interleaving, Interrupt, GeneralisedParallel, AlphabetisedParallel, Hiding, Renaming, ReplicatedExternalChoice, ReplicatedInternalChoice, ReplicatedInterleaving, SlidingChoice}

-- Size: one for each process form, field, set of events and event, two for a renaming pair, one for each expression form.
-- A value counts one, or one plus its fields or members.
abbrev mutual
  pub value_size : Value → ℕ
  value_size (Integer z) = 1
  value_size (Truth b) = 1
  value_size (Constructor k vs) = 1 + values_size vs
  value_size (Sequence vs) = 1 + values_size vs
  value_size (Set vs) = 1 + values_size vs

  pub values_size : Values → ℕ
  values_size no_values = 0
  values_size (value_and v vs) = value_size v + values_size vs

abbrev mutual
  pub expression_size : Expression → ℕ
  expression_size (Literal v) = value_size v
  expression_size (Name n) = 1
  expression_size (Apply op e) = 1 + expression_size e
  expression_size (Combine op e f) = 1 + (expression_size e + expression_size f)
  expression_size (SequenceOf es) = 1 + expressions_size es
  expression_size (SetOf es) = 1 + expressions_size es
  expression_size (Range e f) = 1 + (expression_size e + expression_size f)
  expression_size Booleans = 1
  expression_size (Datatype d) = 1
  expression_size (Nametype n) = 1
  expression_size (ConstructorOf k es) = 1 + expressions_size es

  pub expressions_size : Expressions → ℕ
  expressions_size no_expressions = 0
  expressions_size (expression_and e es) = expression_size e + expressions_size es

abbrev pub fields_size : List Field → ℕ
fields_size [] = 0
fields_size (Given e ∷ fs) = 1 + expression_size e + fields_size fs
fields_size (Input n ∷ fs) = 1 + fields_size fs
fields_size (InputFrom n e ∷ fs) = 1 + expression_size e + fields_size fs

abbrev pub events_size : List EventExpression → ℕ
events_size [] = 0
events_size (e ∷ es) = 1 + expressions_size e.fields + events_size es

abbrev pub event_set_size : EventSet → ℕ
event_set_size (Enumeration es) = 1 + events_size es
event_set_size (Productions es) = 1 + events_size es
event_set_size (EventUnion a b) = 1 + (event_set_size a + event_set_size b)
event_set_size (EventIntersection a b) = 1 + (event_set_size a + event_set_size b)
event_set_size (EventDifference a b) = 1 + (event_set_size a + event_set_size b)

abbrev pub pairs_size : List RenamingPair → ℕ
pairs_size [] = 0
pairs_size (r ∷ rs) = 2 + (expressions_size r.from.fields + expressions_size r.to.fields) + pairs_size rs

abbrev pub size : Process → ℕ
size Stop = 1
size Skip = 1
size Omega = 1
size (Call n es) = 1 + expressions_size es
size (Prefix c fs p) = 1 + (fields_size fs + size p)
size (Guard e p) = 1 + (expression_size e + size p)
size (If e p q) = 1 + (expression_size e + (size p + size q))
size (ExternalChoice p q) = 1 + (size p + size q)
size (InternalChoice p q) = 1 + (size p + size q)
size (Sequential p q) = 1 + (size p + size q)
size (Interleaving p q) = 1 + (size p + size q)
size (Interrupt p q) = 1 + (size p + size q)
size (GeneralisedParallel p a q) = 1 + (size p + (event_set_size a + size q))
size (AlphabetisedParallel p a b q) = 1 + (size p + (event_set_size a + (event_set_size b + size q)))
size (Hiding p a) = 1 + (size p + event_set_size a)
size (Renaming p rs) = 1 + (size p + pairs_size rs)
size (ReplicatedExternalChoice n e p) = 1 + (expression_size e + size p)
size (ReplicatedInternalChoice n e p) = 1 + (expression_size e + size p)
size (ReplicatedInterleaving n e p) = 1 + (expression_size e + size p)
size (SlidingChoice p q) = 1 + (size p + size q)

-- Depth: one more than the deepest part. The functions on lists answer the deepest of the list, 0 where it is empty.
abbrev mutual
  pub value_depth : Value → ℕ
  value_depth (Integer z) = 1
  value_depth (Truth b) = 1
  value_depth (Constructor k vs) = 1 + values_depth vs
  value_depth (Sequence vs) = 1 + values_depth vs
  value_depth (Set vs) = 1 + values_depth vs

  pub values_depth : Values → ℕ
  values_depth no_values = 0
  values_depth (value_and v vs) = max (value_depth v) (values_depth vs)

abbrev mutual
  pub expression_depth : Expression → ℕ
  expression_depth (Literal v) = value_depth v
  expression_depth (Name n) = 1
  expression_depth (Apply op e) = 1 + expression_depth e
  expression_depth (Combine op e f) = 1 + max (expression_depth e) (expression_depth f)
  expression_depth (SequenceOf es) = 1 + expressions_depth es
  expression_depth (SetOf es) = 1 + expressions_depth es
  expression_depth (Range e f) = 1 + max (expression_depth e) (expression_depth f)
  expression_depth Booleans = 1
  expression_depth (Datatype d) = 1
  expression_depth (Nametype n) = 1
  expression_depth (ConstructorOf k es) = 1 + expressions_depth es

  pub expressions_depth : Expressions → ℕ
  expressions_depth no_expressions = 0
  expressions_depth (expression_and e es) = max (expression_depth e) (expressions_depth es)

abbrev pub fields_depth : List Field → ℕ
fields_depth [] = 0
fields_depth (Given e ∷ fs) = max (1 + expression_depth e) (fields_depth fs)
fields_depth (Input n ∷ fs) = max 1 (fields_depth fs)
fields_depth (InputFrom n e ∷ fs) = max (1 + expression_depth e) (fields_depth fs)

abbrev pub events_depth : List EventExpression → ℕ
events_depth [] = 0
events_depth (e ∷ es) = max (1 + expressions_depth e.fields) (events_depth es)

abbrev pub event_set_depth : EventSet → ℕ
event_set_depth (Enumeration es) = 1 + events_depth es
event_set_depth (Productions es) = 1 + events_depth es
event_set_depth (EventUnion a b) = 1 + max (event_set_depth a) (event_set_depth b)
event_set_depth (EventIntersection a b) = 1 + max (event_set_depth a) (event_set_depth b)
event_set_depth (EventDifference a b) = 1 + max (event_set_depth a) (event_set_depth b)

-- the parts of a pair are the expressions of its two sides
abbrev pub pairs_depth : List RenamingPair → ℕ
pairs_depth [] = 0
pairs_depth (r ∷ rs) = max (1 + max (expressions_depth r.from.fields) (expressions_depth r.to.fields)) (pairs_depth rs)

abbrev pub depth : Process → ℕ
depth Stop = 1
depth Skip = 1
depth Omega = 1
depth (Call n es) = 1 + expressions_depth es
depth (Prefix c fs p) = 1 + max (fields_depth fs) (depth p)
depth (Guard e p) = 1 + max (expression_depth e) (depth p)
depth (If e p q) = 1 + max (expression_depth e) (max (depth p) (depth q))
depth (ExternalChoice p q) = 1 + max (depth p) (depth q)
depth (InternalChoice p q) = 1 + max (depth p) (depth q)
depth (Sequential p q) = 1 + max (depth p) (depth q)
depth (Interleaving p q) = 1 + max (depth p) (depth q)
depth (Interrupt p q) = 1 + max (depth p) (depth q)
depth (GeneralisedParallel p a q) = 1 + max (depth p) (max (event_set_depth a) (depth q))
depth (AlphabetisedParallel p a b q) = 1 + max (depth p) (max (event_set_depth a) (max (event_set_depth b) (depth q)))
depth (Hiding p a) = 1 + max (depth p) (event_set_depth a)
depth (Renaming p rs) = 1 + max (depth p) (pairs_depth rs)
depth (ReplicatedExternalChoice n e p) = 1 + max (expression_depth e) (depth p)
depth (ReplicatedInternalChoice n e p) = 1 + max (expression_depth e) (depth p)
depth (ReplicatedInterleaving n e p) = 1 + max (expression_depth e) (depth p)
depth (SlidingChoice p q) = 1 + max (depth p) (depth q)

abbrev pub max_size : ℕ
max_size = 2000

abbrev pub max_depth : ℕ
max_depth = 256

-- whether a term is within the limits
abbrev pub fits : Process → Bool
fits p = nat_le (size p) max_size && nat_le (depth p) max_depth
