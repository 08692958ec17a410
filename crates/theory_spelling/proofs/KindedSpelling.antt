-- Well-kinded terms with short lists, whose numbers are in range, have a spelling of their own: by their kinds, the members
-- of their sets rise.
use Rattle.std.specs.List.{AllByRecursion}
use Rattle.std.proofs.Common.{◌≡◌, inl, inr, true, List, [], ◌∷◌, arith}
use Rattle.theory_syntax.specs.Value.{Value, Integer, Truth, Constructor, Sequence, Set, Values, no_values, value_and}
use Rattle.theory_syntax.specs.Expression.{Expression, Literal, Name, Apply, Combine, SequenceOf, SetOf, Range, Booleans, Datatype, Nametype, ConstructorOf, Expressions, no_expressions, expression_and}
use Rattle.theory_syntax.specs.Process.{Field, Given, Input, InputFrom, EventExpression, EventSet, Enumeration, Productions, EventUnion, EventIntersection, EventDifference, RenamingPair, Process, Stop, Skip, Omega, Call, Prefix, Guard, If, ExternalChoice, InternalChoice, Sequential, Interleaving, Interrupt, GeneralisedParallel, AlphabetisedParallel, Hiding, Renaming, ReplicatedExternalChoice, ReplicatedInternalChoice, ReplicatedInterleaving, SlidingChoice, Script}
use Rattle.theory_syntax.specs.Types.{Types}
use Rattle.theory_semantics.specs.Meaning.Events.{is_bare}
use Rattle.theory_semantics.specs.Kinds.Kind.{Kind, IntKind, BoolKind, DatatypeKind, SequenceKind, SetKind, Kinds, Scope, Each}
use Rattle.theory_semantics.specs.Kinds.Values.{IsValueOf, AreValuesOf, AreValuesInTurn}
use Rattle.theory_semantics.specs.Kinds.Expressions.{HasKind, AllHaveKind, HaveKinds, HaveFirstKinds}
use Rattle.theory_semantics.specs.Kinds.Events.{FieldsHaveKinds, scope_behind, IsEvent, IsBeginning, IsEventSet, IsPair}
use Rattle.theory_semantics.specs.Kinds.Processes.{IsWellKinded}
use Rattle.theory_spelling.specs.Spellable.{IsSpellableValue, AreSpellableValues, IsSpellableExpression, AreSpellableExpressions, IsSpellableField, IsSpellableEvent, IsSpellableEventSet, IsSpellablePair, IsSpellable}
use Rattle.theory_spelling.specs.Packable.{IsPackableValue, ArePackableValues, IsPackableExpression, ArePackableExpressions, IsPackableField, IsPackableEvent, IsPackableEventSet, IsPackablePair, IsPackable}
use Rattle.theory_spelling.specs.Ranges.{IsInRangeValue, AreInRangeValues, IsInRangeExpression, AreInRangeExpressions, IsInRangeField, IsInRangeEvent, IsInRangeEventSet, IsInRangePair, IsInRange}

module _ (types : Types) (kinds : Kinds) where
  -- ---- values

  mutual
    value_spells : (v : Value) (k : Kind) → IsValueOf types kinds v k → IsPackableValue v → IsInRangeValue v → IsSpellableValue v
    value_spells (Integer z) k h p r = r
    value_spells (Truth b) k h p r = tt
    value_spells (Constructor c vs) (DatatypeKind d) h p r = (r.0, (p.0, turn_spells vs h.1.0 h.1.2 p.1 r.1))
    value_spells (Sequence vs) (SequenceKind k) h p r = (p.0, values_spell vs k h p.1 r)
    value_spells (Set vs) (SetKind k) h p r = (p.0, values_spell vs k h.0 p.1 r, h.1)
    value_spells _ _ h p r = absurd h

    values_spell : (vs : Values) (k : Kind) → AreValuesOf types kinds vs k → ArePackableValues vs → AreInRangeValues vs → AreSpellableValues vs
    values_spell no_values k h p r = tt
    values_spell (value_and v vs) k h p r = (value_spells v k h.0 p.0 r.0, values_spell vs k h.1 p.1 r.1)

    turn_spells : (vs : Values) (ks : List Kind) → AreValuesInTurn types kinds vs ks → ArePackableValues vs → AreInRangeValues vs → AreSpellableValues vs
    turn_spells no_values ks h p r = tt
    turn_spells (value_and v vs) [] h p r = absurd h
    turn_spells (value_and v vs) (k ∷ ks) h p r = (value_spells v k h.0 p.0 r.0, turn_spells vs ks h.1 p.1 r.1)

  module _ (scope : Scope) where
    -- ---- expressions

    mutual
      expression_spells : (e : Expression) (k : Kind) → HasKind types kinds scope e k → IsPackableExpression e → IsInRangeExpression e → IsSpellableExpression e
      expression_spells (Literal v) k h p r = value_spells v k h p r
      expression_spells (Name n) k h p r = r
      expression_spells (Apply op e) k h p r = expression_spells e h.0 h.2 p r
      expression_spells (Combine op e f) k h p r = (expression_spells e h.0 h.3 p.0 r.0, expression_spells f h.1 h.4 p.1 r.1)
      expression_spells (SequenceOf es) (SequenceKind k) h p r = (p.0, expressions_spell es k h p.1 r)
      expression_spells (SetOf es) (SetKind k) h p r = (p.0, expressions_spell es k h p.1 r)
      expression_spells (Range e f) (SetKind IntKind) h p r = (expression_spells e IntKind h.0 p.0 r.0, expression_spells f IntKind h.1 p.1 r.1)
      expression_spells Booleans k h p r = tt
      expression_spells (Datatype d) k h p r = r
      expression_spells (Nametype n) k h p r = r
      expression_spells (ConstructorOf c es) (DatatypeKind d) h p r = (r.0, (p.0, given_spell es h.1.0 h.1.2 p.1 r.1))
      expression_spells _ _ h p r = absurd h

      expressions_spell : (es : Expressions) (k : Kind) → AllHaveKind types kinds scope es k → ArePackableExpressions es → AreInRangeExpressions es → AreSpellableExpressions es
      expressions_spell no_expressions k h p r = tt
      expressions_spell (expression_and e es) k h p r = (expression_spells e k h.0 p.0 r.0, expressions_spell es k h.1 p.1 r.1)

      given_spell : (es : Expressions) (ks : List Kind) → HaveKinds types kinds scope es ks → ArePackableExpressions es → AreInRangeExpressions es → AreSpellableExpressions es
      given_spell no_expressions ks h p r = tt
      given_spell (expression_and e es) [] h p r = absurd h
      given_spell (expression_and e es) (k ∷ ks) h p r = (expression_spells e k h.0 p.0 r.0, given_spell es ks h.1 p.1 r.1)

    first_spell : (es : Expressions) (ks : List Kind) → HaveFirstKinds types kinds scope es ks → ArePackableExpressions es → AreInRangeExpressions es → AreSpellableExpressions es
    first_spell no_expressions ks h p r = tt
    first_spell (expression_and e es) [] h p r = absurd h
    first_spell (expression_and e es) (k ∷ ks) h p r = (expression_spells e k h.0 p.0 r.0, first_spell es ks h.1 p.1 r.1)

    -- ---- events and sets of events

    event_spells : (e : EventExpression) → IsEvent types kinds scope e → IsPackableEvent e → IsInRangeEvent e → IsSpellableEvent e
    event_spells e h p r = (r.0, (p.0, given_spell e.fields h.0 h.2 p.1 r.1))

    events_spell : (es : List EventExpression) → Each (IsEvent types kinds scope) es → AllByRecursion IsPackableEvent es → AllByRecursion IsInRangeEvent es → AllByRecursion IsSpellableEvent es
    events_spell [] h p r = tt
    events_spell (e ∷ es) h p r = (event_spells e h.0 p.0 r.0, events_spell es h.1 p.1 r.1)

    beginnings_spell : (es : List EventExpression) → Each (IsBeginning types kinds scope) es → AllByRecursion IsPackableEvent es → AllByRecursion IsInRangeEvent es → AllByRecursion IsSpellableEvent es
    beginnings_spell [] h p r = tt
    beginnings_spell (e ∷ es) h p r = ((r.0.0, (p.0.0, first_spell e.fields h.0.0 h.0.2 p.0.1 r.0.1)), beginnings_spell es h.1 p.1 r.1)

    event_set_spells : (a : EventSet) → IsEventSet types kinds scope a → IsPackableEventSet a → IsInRangeEventSet a → IsSpellableEventSet a
    event_set_spells (Enumeration es) h p r = (p.0, events_spell es h p.1 r)
    event_set_spells (Productions es) h p r = (p.0, beginnings_spell es h p.1 r)
    event_set_spells (EventUnion a b) h p r = (event_set_spells a h.0 p.0 r.0, event_set_spells b h.1 p.1 r.1)
    event_set_spells (EventIntersection a b) h p r = (event_set_spells a h.0 p.0 r.0, event_set_spells b h.1 p.1 r.1)
    event_set_spells (EventDifference a b) h p r = (event_set_spells a h.0 p.0 r.0, event_set_spells b h.1 p.1 r.1)

  -- the fields of a prefix
  fields_spell : (scope : Scope) (fs : List Field) (ks : List Kind) → FieldsHaveKinds types kinds scope fs ks → AllByRecursion IsPackableField fs → AllByRecursion IsInRangeField fs →
      AllByRecursion IsSpellableField fs
  fields_spell scope [] ks h p r = tt
  fields_spell scope (Given e ∷ fs) (k ∷ ks) h p r = (expression_spells scope e k h.0 p.0 r.0, fields_spell scope fs ks h.1 p.1 r.1)
  fields_spell scope (Input n ∷ fs) (k ∷ ks) h p r = (r.0, fields_spell ((n, k) ∷ scope) fs ks h p.1 r.1)
  fields_spell scope (InputFrom n e ∷ fs) (k ∷ ks) h p r = ((r.0.0, expression_spells scope e (SetKind k) h.0 p.0 r.0.1), fields_spell ((n, k) ∷ scope) fs ks h.1 p.1 r.1)
  fields_spell scope _ _ h p r = grind arith

-- a channel without fields
bare_spells : (e : EventExpression) → is_bare e ≡ true → IsPackableEvent e → IsInRangeEvent e → IsSpellableEvent e
bare_spells e bare p r = (r.0, (p.0, by e.fields bare))
  where
    by : (es : Expressions) → is_bare (record { channel = e.channel; fields = es }) ≡ true → AreSpellableExpressions es
    by no_expressions is = tt
    by (expression_and f fs) is = absurd (cc is)

module _ (script : Script) (kinds : Kinds) where
  -- the pairs of a renaming
  pair_spells : (scope : Scope) (r : RenamingPair) → IsPair script kinds scope r → IsPackablePair r → IsInRangePair r → IsSpellablePair r
  pair_spells scope r (inl h) p n = (event_spells script.types kinds scope r.from h.0 p.0 n.0, event_spells script.types kinds scope r.to h.1 p.1 n.1)
  pair_spells scope r (inr h) p n = (bare_spells r.from h.0 p.0 n.0, bare_spells r.to h.1 p.1 n.1)

  pairs_spell : (scope : Scope) (rs : List RenamingPair) → Each (IsPair script kinds scope) rs → AllByRecursion IsPackablePair rs → AllByRecursion IsInRangePair rs → AllByRecursion IsSpellablePair rs
  pairs_spell scope [] h p n = tt
  pairs_spell scope (r ∷ rs) h p n = (pair_spells scope r h.0 p.0 n.0, pairs_spell scope rs h.1 p.1 n.1)

  -- ---- processes

  pub spellable : (scope : Scope) (t : Process) → IsWellKinded script kinds scope t → IsPackable t → IsInRange t → IsSpellable t
  spellable scope Stop h p r = tt
  spellable scope Skip h p r = tt
  spellable scope Omega h p r = tt
  spellable scope (Call n es) h p r = (r.0, (p.0, given_spell script.types kinds scope es h.0 h.2 p.1 r.1))
  spellable scope (Prefix c fs t) h p r = (r.0, (p.0.0, fields_spell script.types kinds scope fs h.0 h.2 p.0.1 r.1), spellable (scope_behind scope fs h.0) t h.3 p.1 r.2)
  spellable scope (Guard e t) h p r = (expression_spells script.types kinds scope e BoolKind h.0 p.0 r.0, spellable scope t h.1 p.1 r.1)
  spellable scope (If e t u) h p r = (expression_spells script.types kinds scope e BoolKind h.0 p.0 r.0, spellable scope t h.1 p.1 r.1, spellable scope u h.2 p.2 r.2)
  spellable scope (ExternalChoice t u) h p r = (spellable scope t h.0 p.0 r.0, spellable scope u h.1 p.1 r.1)
  spellable scope (InternalChoice t u) h p r = (spellable scope t h.0 p.0 r.0, spellable scope u h.1 p.1 r.1)
  spellable scope (Sequential t u) h p r = (spellable scope t h.0 p.0 r.0, spellable scope u h.1 p.1 r.1)
  spellable scope (Interleaving t u) h p r = (spellable scope t h.0 p.0 r.0, spellable scope u h.1 p.1 r.1)
  spellable scope (Interrupt t u) h p r = (spellable scope t h.0 p.0 r.0, spellable scope u h.1 p.1 r.1)
  spellable scope (GeneralisedParallel t a u) h p r = (spellable scope t h.0 p.0 r.0, event_set_spells script.types kinds scope a h.1 p.1 r.1, spellable scope u h.2 p.2 r.2)
  spellable scope (AlphabetisedParallel t a b u) h p r =
      (spellable scope t h.0 p.0 r.0, event_set_spells script.types kinds scope a h.1 p.1 r.1, event_set_spells script.types kinds scope b h.2 p.2 r.2, spellable scope u h.3 p.3 r.3)
  spellable scope (Hiding t a) h p r = (spellable scope t h.0 p.0 r.0, event_set_spells script.types kinds scope a h.1 p.1 r.1)
  spellable scope (Renaming t rs) h p r = (spellable scope t h.0 p.0 r.0, (p.1.0, pairs_spell scope rs h.1 p.1.1 r.1))
  spellable scope (ReplicatedExternalChoice n e t) h p r = (r.0, expression_spells script.types kinds scope e (SetKind h.0) h.1 p.0 r.1, spellable ((n, h.0) ∷ scope) t h.2 p.1 r.2)
  spellable scope (ReplicatedInternalChoice n e t) h p r = (r.0, expression_spells script.types kinds scope e (SetKind h.0) h.1 p.0 r.1, spellable ((n, h.0) ∷ scope) t h.2 p.1 r.2)
  spellable scope (ReplicatedInterleaving n e t) h p r = (r.0, expression_spells script.types kinds scope e (SetKind h.0) h.1 p.0 r.1, spellable ((n, h.0) ∷ scope) t h.2 p.1 r.2)
  spellable scope (SlidingChoice t u) h p r = (spellable scope t h.0 p.0 r.0, spellable scope u h.1 p.1 r.1)
