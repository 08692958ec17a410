-- A term that has a spelling of its own has short lists, and its numbers are in range.
use Rattle.std.specs.List.{AllByRecursion}
use Rattle.std.proofs.Common.{List, [], ◌∷◌}
use Rattle.theory_syntax.specs.Value.{Value, Integer, Truth, Constructor, Sequence, Set, Values, no_values, value_and}
use Rattle.theory_syntax.specs.Expression.{Expression, Literal, Name, Apply, Combine, SequenceOf, SetOf, Range, Booleans, Datatype, Nametype, ConstructorOf, Expressions, no_expressions, expression_and}
use Rattle.theory_syntax.specs.Process.{Field, Given, Input, InputFrom, EventExpression, EventSet, Enumeration, Productions, EventUnion, EventIntersection, EventDifference, RenamingPair, Process, Stop, Skip, Omega, Call, Prefix, Guard, If, ExternalChoice, InternalChoice, Sequential, Interleaving, Interrupt, GeneralisedParallel, AlphabetisedParallel, Hiding, Renaming, ReplicatedExternalChoice, ReplicatedInternalChoice, ReplicatedInterleaving, SlidingChoice}
use Rattle.theory_spelling.specs.Spellable.{IsSpellableValue, AreSpellableValues, IsSpellableExpression, AreSpellableExpressions, AreSpellableArguments, IsSpellableField, IsSpellableEvent, IsSpellableEventSet, IsSpellablePair, IsSpellable}
use Rattle.theory_spelling.specs.Packable.{IsPackableValue, ArePackableValues, IsPackableExpression, ArePackableExpressions, ArePackableArguments, IsPackableField, IsPackableEvent, IsPackableEventSet, IsPackablePair, IsPackable}
use Rattle.theory_spelling.specs.Ranges.{IsInRangeValue, AreInRangeValues, IsInRangeExpression, AreInRangeExpressions, IsInRangeField, IsInRangeEvent, IsInRangeEventSet, IsInRangePair, IsInRange}

each_too : {X : Type 0} (P Q : X → Type 0) → ((x : X) → P x → Q x) → (xs : List X) → AllByRecursion P xs → AllByRecursion Q xs
each_too P Q one [] h = tt
each_too P Q one (x ∷ xs) h = (one x h.0, each_too P Q one xs h.1)

-- ---- short lists

mutual
  value_packable : (v : Value) → IsSpellableValue v → IsPackableValue v
  value_packable (Integer z) h = tt
  value_packable (Truth b) h = tt
  value_packable (Constructor k vs) h = (h.1.0, values_packable vs h.1.1)
  value_packable (Sequence vs) h = (h.0, values_packable vs h.1)
  value_packable (Set vs) h = (h.0, values_packable vs h.1)

  values_packable : (vs : Values) → AreSpellableValues vs → ArePackableValues vs
  values_packable no_values h = tt
  values_packable (value_and v vs) h = (value_packable v h.0, values_packable vs h.1)

mutual
  expression_packable : (e : Expression) → IsSpellableExpression e → IsPackableExpression e
  expression_packable (Literal v) h = value_packable v h
  expression_packable (Name n) h = tt
  expression_packable (Apply op e) h = expression_packable e h
  expression_packable (Combine op e f) h = (expression_packable e h.0, expression_packable f h.1)
  expression_packable (SequenceOf es) h = (h.0, expressions_packable es h.1)
  expression_packable (SetOf es) h = (h.0, expressions_packable es h.1)
  expression_packable (Range e f) h = (expression_packable e h.0, expression_packable f h.1)
  expression_packable Booleans h = tt
  expression_packable (Datatype d) h = tt
  expression_packable (Nametype n) h = tt
  expression_packable (ConstructorOf k es) h = (h.1.0, expressions_packable es h.1.1)

  expressions_packable : (es : Expressions) → AreSpellableExpressions es → ArePackableExpressions es
  expressions_packable no_expressions h = tt
  expressions_packable (expression_and e es) h = (expression_packable e h.0, expressions_packable es h.1)

arguments_packable : (es : Expressions) → AreSpellableArguments es → ArePackableArguments es
arguments_packable es h = (h.0, expressions_packable es h.1)

field_packable : (f : Field) → IsSpellableField f → IsPackableField f
field_packable (Given e) h = expression_packable e h
field_packable (Input n) h = tt
field_packable (InputFrom n e) h = expression_packable e h.1

event_packable : (e : EventExpression) → IsSpellableEvent e → IsPackableEvent e
event_packable e h = arguments_packable e.fields h.1

event_set_packable : (a : EventSet) → IsSpellableEventSet a → IsPackableEventSet a
event_set_packable (Enumeration es) h = (h.0, each_too IsSpellableEvent IsPackableEvent event_packable es h.1)
event_set_packable (Productions es) h = (h.0, each_too IsSpellableEvent IsPackableEvent event_packable es h.1)
event_set_packable (EventUnion a b) h = (event_set_packable a h.0, event_set_packable b h.1)
event_set_packable (EventIntersection a b) h = (event_set_packable a h.0, event_set_packable b h.1)
event_set_packable (EventDifference a b) h = (event_set_packable a h.0, event_set_packable b h.1)

pair_packable : (r : RenamingPair) → IsSpellablePair r → IsPackablePair r
pair_packable r h = (event_packable r.from h.0, event_packable r.to h.1)

pub packable : (p : Process) → IsSpellable p → IsPackable p
packable Stop h = tt
packable Skip h = tt
packable Omega h = tt
packable (Call n es) h = arguments_packable es h.1
packable (Prefix c fs p) h = ((h.1.0, each_too IsSpellableField IsPackableField field_packable fs h.1.1), packable p h.2)
packable (Guard e p) h = (expression_packable e h.0, packable p h.1)
packable (If e p q) h = (expression_packable e h.0, packable p h.1, packable q h.2)
packable (ExternalChoice p q) h = (packable p h.0, packable q h.1)
packable (InternalChoice p q) h = (packable p h.0, packable q h.1)
packable (Sequential p q) h = (packable p h.0, packable q h.1)
packable (Interleaving p q) h = (packable p h.0, packable q h.1)
packable (Interrupt p q) h = (packable p h.0, packable q h.1)
packable (GeneralisedParallel p a q) h = (packable p h.0, event_set_packable a h.1, packable q h.2)
packable (AlphabetisedParallel p a b q) h = (packable p h.0, event_set_packable a h.1, event_set_packable b h.2, packable q h.3)
packable (Hiding p a) h = (packable p h.0, event_set_packable a h.1)
packable (Renaming p rs) h = (packable p h.0, (h.1.0, each_too IsSpellablePair IsPackablePair pair_packable rs h.1.1))
packable (ReplicatedExternalChoice n e p) h = (expression_packable e h.1, packable p h.2)
packable (ReplicatedInternalChoice n e p) h = (expression_packable e h.1, packable p h.2)
packable (ReplicatedInterleaving n e p) h = (expression_packable e h.1, packable p h.2)
packable (SlidingChoice p q) h = (packable p h.0, packable q h.1)

-- ---- numbers in range

mutual
  value_in_range : (v : Value) → IsSpellableValue v → IsInRangeValue v
  value_in_range (Integer z) h = h
  value_in_range (Truth b) h = tt
  value_in_range (Constructor k vs) h = (h.0, values_in_range vs h.1.1)
  value_in_range (Sequence vs) h = values_in_range vs h.1
  value_in_range (Set vs) h = values_in_range vs h.1

  values_in_range : (vs : Values) → AreSpellableValues vs → AreInRangeValues vs
  values_in_range no_values h = tt
  values_in_range (value_and v vs) h = (value_in_range v h.0, values_in_range vs h.1)

mutual
  expression_in_range : (e : Expression) → IsSpellableExpression e → IsInRangeExpression e
  expression_in_range (Literal v) h = value_in_range v h
  expression_in_range (Name n) h = h
  expression_in_range (Apply op e) h = expression_in_range e h
  expression_in_range (Combine op e f) h = (expression_in_range e h.0, expression_in_range f h.1)
  expression_in_range (SequenceOf es) h = expressions_in_range es h.1
  expression_in_range (SetOf es) h = expressions_in_range es h.1
  expression_in_range (Range e f) h = (expression_in_range e h.0, expression_in_range f h.1)
  expression_in_range Booleans h = tt
  expression_in_range (Datatype d) h = h
  expression_in_range (Nametype n) h = h
  expression_in_range (ConstructorOf k es) h = (h.0, expressions_in_range es h.1.1)

  expressions_in_range : (es : Expressions) → AreSpellableExpressions es → AreInRangeExpressions es
  expressions_in_range no_expressions h = tt
  expressions_in_range (expression_and e es) h = (expression_in_range e h.0, expressions_in_range es h.1)

field_in_range : (f : Field) → IsSpellableField f → IsInRangeField f
field_in_range (Given e) h = expression_in_range e h
field_in_range (Input n) h = h
field_in_range (InputFrom n e) h = (h.0, expression_in_range e h.1)

event_in_range : (e : EventExpression) → IsSpellableEvent e → IsInRangeEvent e
event_in_range e h = (h.0, expressions_in_range e.fields h.1.1)

event_set_in_range : (a : EventSet) → IsSpellableEventSet a → IsInRangeEventSet a
event_set_in_range (Enumeration es) h = each_too IsSpellableEvent IsInRangeEvent event_in_range es h.1
event_set_in_range (Productions es) h = each_too IsSpellableEvent IsInRangeEvent event_in_range es h.1
event_set_in_range (EventUnion a b) h = (event_set_in_range a h.0, event_set_in_range b h.1)
event_set_in_range (EventIntersection a b) h = (event_set_in_range a h.0, event_set_in_range b h.1)
event_set_in_range (EventDifference a b) h = (event_set_in_range a h.0, event_set_in_range b h.1)

pair_in_range : (r : RenamingPair) → IsSpellablePair r → IsInRangePair r
pair_in_range r h = (event_in_range r.from h.0, event_in_range r.to h.1)

pub in_range : (p : Process) → IsSpellable p → IsInRange p
in_range Stop h = tt
in_range Skip h = tt
in_range Omega h = tt
in_range (Call n es) h = (h.0, expressions_in_range es h.1.1)
in_range (Prefix c fs p) h = (h.0, each_too IsSpellableField IsInRangeField field_in_range fs h.1.1, in_range p h.2)
in_range (Guard e p) h = (expression_in_range e h.0, in_range p h.1)
in_range (If e p q) h = (expression_in_range e h.0, in_range p h.1, in_range q h.2)
in_range (ExternalChoice p q) h = (in_range p h.0, in_range q h.1)
in_range (InternalChoice p q) h = (in_range p h.0, in_range q h.1)
in_range (Sequential p q) h = (in_range p h.0, in_range q h.1)
in_range (Interleaving p q) h = (in_range p h.0, in_range q h.1)
in_range (Interrupt p q) h = (in_range p h.0, in_range q h.1)
in_range (GeneralisedParallel p a q) h = (in_range p h.0, event_set_in_range a h.1, in_range q h.2)
in_range (AlphabetisedParallel p a b q) h = (in_range p h.0, event_set_in_range a h.1, event_set_in_range b h.2, in_range q h.3)
in_range (Hiding p a) h = (in_range p h.0, event_set_in_range a h.1)
in_range (Renaming p rs) h = (in_range p h.0, each_too IsSpellablePair IsInRangePair pair_in_range rs h.1.1)
in_range (ReplicatedExternalChoice n e p) h = (h.0, expression_in_range e h.1, in_range p h.2)
in_range (ReplicatedInternalChoice n e p) h = (h.0, expression_in_range e h.1, in_range p h.2)
in_range (ReplicatedInterleaving n e p) h = (h.0, expression_in_range e h.1, in_range p h.2)
in_range (SlidingChoice p q) h = (in_range p h.0, in_range q h.1)
