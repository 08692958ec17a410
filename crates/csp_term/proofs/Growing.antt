-- Putting values in makes nothing smaller, and nothing less deep.
use Rattle.std.proofs.Common.{◌≡◌, ℕ, ◌+◌, ◌≤◌, max, List, [], ◌∷◌, Option, Some, None, Bool, true, false, IsTrue, IsFalse, refl, sym, ◌∙◌, arith}
use Rattle.std.proofs.Math.Nat.{max-le, le-max_left, le-max_right}
use Rattle.theory_syntax.specs.Value.{Value, Integer, Truth, Constructor, Sequence, Set}
use Rattle.theory_syntax.specs.Expression.{Expression, Literal, Name, Apply, Combine, SequenceOf, SetOf, Range, Booleans, Datatype, Nametype, ConstructorOf, Expressions, no_expressions, expression_and}
use Rattle.theory_syntax.specs.Process.{Field, Given, Input, InputFrom, EventExpression, EventSet, Enumeration, Productions, EventUnion, EventIntersection, EventDifference, RenamingPair, Process, Stop, Skip, Omega, Call, Prefix, Guard, If, ExternalChoice, InternalChoice, Sequential, Interleaving, Interrupt, GeneralisedParallel, AlphabetisedParallel, Hiding, Renaming, ReplicatedExternalChoice, ReplicatedInternalChoice, ReplicatedInterleaving, SlidingChoice}
use Rattle.theory_semantics.specs.Meaning.Substitution.{Bindings, bound, without, name_or, put_expression, put_expressions, put_fields, behind, put_events, put_event_set, put_pairs, put}
use Rattle.theory_semantics.specs.Meaning.Limits.{value_size, value_depth, expression_size, expressions_size, fields_size, events_size, event_set_size, pairs_size, size, expression_depth, expressions_depth, fields_depth, events_depth, event_set_depth, pairs_depth, depth, fits}

-- ---- size

some_size : (v : Value) → 1 ≤ value_size v
some_size (Integer z) = omega arith
some_size (Truth b) = omega arith
some_size (Constructor k vs) = omega arith
some_size (Sequence vs) = omega arith
some_size (Set vs) = omega arith

name_size : (o : Option Value) (n : ℕ) → 1 ≤ expression_size (name_or o n)
name_size (Some v) n = some_size v
name_size None n = omega arith

mutual
  expression_grows : (bs : Bindings) (e : Expression) → expression_size e ≤ expression_size (put_expression bs e)
  expression_grows bs (Literal v) = omega arith
  expression_grows bs (Name n) = name_size (bound bs n) n
  expression_grows bs (Apply op e) = omega (arith, expression_grows bs e)
  expression_grows bs (Combine op e f) = omega (arith, expression_grows bs e, expression_grows bs f)
  expression_grows bs (SequenceOf es) = omega (arith, expressions_grow bs es)
  expression_grows bs (SetOf es) = omega (arith, expressions_grow bs es)
  expression_grows bs (Range e f) = omega (arith, expression_grows bs e, expression_grows bs f)
  expression_grows bs Booleans = omega arith
  expression_grows bs (Datatype d) = omega arith
  expression_grows bs (Nametype n) = omega arith
  expression_grows bs (ConstructorOf k es) = omega (arith, expressions_grow bs es)

  expressions_grow : (bs : Bindings) (es : Expressions) → expressions_size es ≤ expressions_size (put_expressions bs es)
  expressions_grow bs no_expressions = omega arith
  expressions_grow bs (expression_and e es) = omega (arith, expression_grows bs e, expressions_grow bs es)

fields_grow : (bs : Bindings) (fs : List Field) → fields_size fs ≤ fields_size (put_fields bs fs)
fields_grow bs [] = omega arith
fields_grow bs (Given e ∷ fs) = omega (arith, expression_grows bs e, fields_grow bs fs)
fields_grow bs (Input n ∷ fs) = omega (arith, fields_grow (without n bs) fs)
fields_grow bs (InputFrom n e ∷ fs) = omega (arith, expression_grows bs e, fields_grow (without n bs) fs)

events_grow : (bs : Bindings) (es : List EventExpression) → events_size es ≤ events_size (put_events bs es)
events_grow bs [] = omega arith
events_grow bs (e ∷ es) = omega (arith, expressions_grow bs e.fields, events_grow bs es)

event_set_grows : (bs : Bindings) (a : EventSet) → event_set_size a ≤ event_set_size (put_event_set bs a)
event_set_grows bs (Enumeration es) = omega (arith, events_grow bs es)
event_set_grows bs (Productions es) = omega (arith, events_grow bs es)
event_set_grows bs (EventUnion a b) = omega (arith, event_set_grows bs a, event_set_grows bs b)
event_set_grows bs (EventIntersection a b) = omega (arith, event_set_grows bs a, event_set_grows bs b)
event_set_grows bs (EventDifference a b) = omega (arith, event_set_grows bs a, event_set_grows bs b)

pairs_grow : (bs : Bindings) (rs : List RenamingPair) → pairs_size rs ≤ pairs_size (put_pairs bs rs)
pairs_grow bs [] = omega arith
pairs_grow bs (r ∷ rs) = omega (arith, expressions_grow bs r.from.fields, expressions_grow bs r.to.fields, pairs_grow bs rs)

grows : (bs : Bindings) (p : Process) → size p ≤ size (put bs p)
grows bs Stop = omega arith
grows bs Skip = omega arith
grows bs Omega = omega arith
grows bs (Call n es) = omega (arith, expressions_grow bs es)
grows bs (Prefix c fs p) = omega (arith, fields_grow bs fs, grows (behind bs fs) p)
grows bs (Guard e p) = omega (arith, expression_grows bs e, grows bs p)
grows bs (If e p q) = omega (arith, expression_grows bs e, grows bs p, grows bs q)
grows bs (ExternalChoice p q) = omega (arith, grows bs p, grows bs q)
grows bs (InternalChoice p q) = omega (arith, grows bs p, grows bs q)
grows bs (Sequential p q) = omega (arith, grows bs p, grows bs q)
grows bs (Interleaving p q) = omega (arith, grows bs p, grows bs q)
grows bs (Interrupt p q) = omega (arith, grows bs p, grows bs q)
grows bs (GeneralisedParallel p a q) = omega (arith, grows bs p, event_set_grows bs a, grows bs q)
grows bs (AlphabetisedParallel p a b q) = omega (arith, grows bs p, event_set_grows bs a, event_set_grows bs b, grows bs q)
grows bs (Hiding p a) = omega (arith, grows bs p, event_set_grows bs a)
grows bs (Renaming p rs) = omega (arith, grows bs p, pairs_grow bs rs)
grows bs (ReplicatedExternalChoice n e p) = omega (arith, expression_grows bs e, grows (without n bs) p)
grows bs (ReplicatedInternalChoice n e p) = omega (arith, expression_grows bs e, grows (without n bs) p)
grows bs (ReplicatedInterleaving n e p) = omega (arith, expression_grows bs e, grows (without n bs) p)
grows bs (SlidingChoice p q) = omega (arith, grows bs p, grows bs q)

-- ---- depth

-- the deeper of two parts that both deepen
both : {a b c d : ℕ} → a ≤ b → c ≤ d → max a c ≤ max b d
both {a} {b} {c} {d} first second = max-le (omega (arith, first, le-max_left b d)) (omega (arith, second, le-max_right b d))

-- the whole of parts that deepen
over : {a b : ℕ} → a ≤ b → 1 + a ≤ 1 + b
over part = omega (arith, part)

same : (n : ℕ) → n ≤ n
same n = omega arith

some_depth : (v : Value) → 1 ≤ value_depth v
some_depth (Integer z) = omega arith
some_depth (Truth b) = omega arith
some_depth (Constructor k vs) = omega arith
some_depth (Sequence vs) = omega arith
some_depth (Set vs) = omega arith

name_depth : (o : Option Value) (n : ℕ) → 1 ≤ expression_depth (name_or o n)
name_depth (Some v) n = some_depth v
name_depth None n = omega arith

mutual
  expression_deepens : (bs : Bindings) (e : Expression) → expression_depth e ≤ expression_depth (put_expression bs e)
  expression_deepens bs (Literal v) = omega arith
  expression_deepens bs (Name n) = name_depth (bound bs n) n
  expression_deepens bs (Apply op e) = over (expression_deepens bs e)
  expression_deepens bs (Combine op e f) = over (both (expression_deepens bs e) (expression_deepens bs f))
  expression_deepens bs (SequenceOf es) = over (expressions_deepen bs es)
  expression_deepens bs (SetOf es) = over (expressions_deepen bs es)
  expression_deepens bs (Range e f) = over (both (expression_deepens bs e) (expression_deepens bs f))
  expression_deepens bs Booleans = omega arith
  expression_deepens bs (Datatype d) = omega arith
  expression_deepens bs (Nametype n) = omega arith
  expression_deepens bs (ConstructorOf k es) = over (expressions_deepen bs es)

  expressions_deepen : (bs : Bindings) (es : Expressions) → expressions_depth es ≤ expressions_depth (put_expressions bs es)
  expressions_deepen bs no_expressions = omega arith
  expressions_deepen bs (expression_and e es) = both (expression_deepens bs e) (expressions_deepen bs es)

fields_deepen : (bs : Bindings) (fs : List Field) → fields_depth fs ≤ fields_depth (put_fields bs fs)
fields_deepen bs [] = omega arith
fields_deepen bs (Given e ∷ fs) = both (over (expression_deepens bs e)) (fields_deepen bs fs)
fields_deepen bs (Input n ∷ fs) = both (same 1) (fields_deepen (without n bs) fs)
fields_deepen bs (InputFrom n e ∷ fs) = both (over (expression_deepens bs e)) (fields_deepen (without n bs) fs)

events_deepen : (bs : Bindings) (es : List EventExpression) → events_depth es ≤ events_depth (put_events bs es)
events_deepen bs [] = omega arith
events_deepen bs (e ∷ es) = both (over (expressions_deepen bs e.fields)) (events_deepen bs es)

event_set_deepens : (bs : Bindings) (a : EventSet) → event_set_depth a ≤ event_set_depth (put_event_set bs a)
event_set_deepens bs (Enumeration es) = over (events_deepen bs es)
event_set_deepens bs (Productions es) = over (events_deepen bs es)
event_set_deepens bs (EventUnion a b) = over (both (event_set_deepens bs a) (event_set_deepens bs b))
event_set_deepens bs (EventIntersection a b) = over (both (event_set_deepens bs a) (event_set_deepens bs b))
event_set_deepens bs (EventDifference a b) = over (both (event_set_deepens bs a) (event_set_deepens bs b))

pairs_deepen : (bs : Bindings) (rs : List RenamingPair) → pairs_depth rs ≤ pairs_depth (put_pairs bs rs)
pairs_deepen bs [] = omega arith
pairs_deepen bs (r ∷ rs) = both (over (both (expressions_deepen bs r.from.fields) (expressions_deepen bs r.to.fields))) (pairs_deepen bs rs)

deepens : (bs : Bindings) (p : Process) → depth p ≤ depth (put bs p)
deepens bs Stop = omega arith
deepens bs Skip = omega arith
deepens bs Omega = omega arith
deepens bs (Call n es) = over (expressions_deepen bs es)
deepens bs (Prefix c fs p) = over (both (fields_deepen bs fs) (deepens (behind bs fs) p))
deepens bs (Guard e p) = over (both (expression_deepens bs e) (deepens bs p))
deepens bs (If e p q) = over (both (expression_deepens bs e) (both (deepens bs p) (deepens bs q)))
deepens bs (ExternalChoice p q) = over (both (deepens bs p) (deepens bs q))
deepens bs (InternalChoice p q) = over (both (deepens bs p) (deepens bs q))
deepens bs (Sequential p q) = over (both (deepens bs p) (deepens bs q))
deepens bs (Interleaving p q) = over (both (deepens bs p) (deepens bs q))
deepens bs (Interrupt p q) = over (both (deepens bs p) (deepens bs q))
deepens bs (GeneralisedParallel p a q) = over (both (deepens bs p) (both (event_set_deepens bs a) (deepens bs q)))
deepens bs (AlphabetisedParallel p a b q) = over (both (deepens bs p) (both (event_set_deepens bs a) (both (event_set_deepens bs b) (deepens bs q))))
deepens bs (Hiding p a) = over (both (deepens bs p) (event_set_deepens bs a))
deepens bs (Renaming p rs) = over (both (deepens bs p) (pairs_deepen bs rs))
deepens bs (ReplicatedExternalChoice n e p) = over (both (expression_deepens bs e) (deepens (without n bs) p))
deepens bs (ReplicatedInternalChoice n e p) = over (both (expression_deepens bs e) (deepens (without n bs) p))
deepens bs (ReplicatedInterleaving n e p) = over (both (expression_deepens bs e) (deepens (without n bs) p))
deepens bs (SlidingChoice p q) = over (both (deepens bs p) (deepens bs q))

-- ---- the limits

fits_before : (bs : Bindings) (p : Process) → IsTrue (fits (put bs p)) → IsTrue (fits p)
fits_before bs p within = grind (arith, grows bs p, deepens bs p)

refused : (before after : Bool) → (after ≡ true → before ≡ true) → before ≡ false → after ≡ false
refused before true back is = absurd (cc (sym (back refl) ∙ is))
refused before false back is = refl

-- a process past the limits stays past them, whatever is put in
pub stays_large : (bs : Bindings) (p : Process) → IsFalse (fits p) → IsFalse (fits (put bs p))
stays_large bs p large = refused (fits p) (fits (put bs p)) (fits_before bs p) large
