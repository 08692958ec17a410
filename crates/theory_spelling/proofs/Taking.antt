-- What is read is spelled at the front of the bytes.
use Rattle.std.proofs.Common.{◌≡◌, ℕ, zero, suc, ◌^◌, ◌<◌, Bool, true, false, cond, List, [], ◌∷◌, ◌++◌, length, Option, Some, None, refl, sym, ap, subst, ◌∙◌, arith}
use Rattle.std.specs.Prelude.{FitsSigned}
use Rattle.std.specs.List.{flat_map, AllByRecursion}
use Rattle.std.specs.Int.{w32}
use Rattle.theory_syntax.specs.Value.{Value, Integer, Truth, Constructor, Sequence, Set, Values, no_values, to_values, values_list, value_cmp}
use Rattle.theory_syntax.specs.Expression.{Unary, Binary, Expression, Literal, Name, Apply, Combine, SequenceOf, SetOf, Range, Booleans, Datatype, Nametype, ConstructorOf, Expressions, to_expressions, expressions_list}
use Rattle.theory_syntax.specs.Process.{Field, Given, Input, InputFrom, EventExpression, EventSet, Enumeration, Productions, EventUnion, EventIntersection, EventDifference, RenamingPair, Process, Stop, Skip, Omega, Call, Prefix, Guard, If, ExternalChoice, InternalChoice, Sequential, Interleaving, Interrupt, GeneralisedParallel, AlphabetisedParallel, Hiding, Renaming, ReplicatedExternalChoice, ReplicatedInternalChoice, ReplicatedInterleaving, SlidingChoice}
use Rattle.theory_semantics.specs.Meaning.Offers.{RisesBy, rises}
use Rattle.theory_spelling.specs.Spelling.{number_spelling, whole_spelling, truth_spelling, list_spelling, value_spelling, values_spelling, unary_tag, binary_tag, expression_spelling, expressions_spelling, arguments_spelling, field_spelling, event_spelling, event_set_spelling, pair_spelling, spelling}
use Rattle.theory_spelling.specs.Spellable.{IsShort, IsSpellableValue, AreSpellableValues, IsSpellableExpression, AreSpellableExpressions, AreSpellableArguments, IsSpellableList, IsSpellableField, IsSpellableEvent, IsSpellableEventSet, IsSpellablePair, IsSpellable}
use Rattle.theory_semantics.proofs.RisingValues.{told_rises}
use Rattle.theory_spelling.specs.Reading.{IsBytes, Found, ◌>>=◌, both, byte_at, number_at, whole_at, truth_at, list_at, values_at, if_rising, members_at, with_some_fields, constructor_at, value_behind, value_at, tagged, unary_operators, binary_operators, unary_tagged, binary_tagged, operation_at, expressions_at, expression_behind, expression_at, field_behind, field_at, event_of_parts, event_at, pair_of_sides, pair_at, event_set_behind, event_set_at, call_at, prefix_at, guard_at, if_at, generalised_at, alphabetised_at, hiding_at, renaming_at, replicated_at, process_behind, process_at}
use Rattle.theory_spelling.proofs.Numbers.{IsBytes-rest, Spells, Takes, IsNumber, number_takes, whole_takes, truth_takes}
use Rattle.theory_spelling.proofs.Parts.{bind_some, some_is, at_tag, both_takes, as_takes, behind_takes, alone_takes, two_takes, list_takes}

-- ---- lists of the trees

pub values_listed : (vs : List Value) → values_list (to_values vs) ≡ vs
values_listed [] = refl
values_listed (v ∷ vs) = ap (λ ws. v ∷ ws) (values_listed vs)

pub spelled_values : (vs : List Value) → values_spelling (to_values vs) ≡ flat_map value_spelling vs
spelled_values [] = refl
spelled_values (v ∷ vs) = ap (λ bytes. value_spelling v ++ bytes) (spelled_values vs)

pub expressions_listed : (es : List Expression) → expressions_list (to_expressions es) ≡ es
expressions_listed [] = refl
expressions_listed (e ∷ es) = ap (λ fs. e ∷ fs) (expressions_listed es)

pub spelled_expressions : (es : List Expression) → expressions_spelling (to_expressions es) ≡ flat_map expression_spelling es
spelled_expressions [] = refl
spelled_expressions (e ∷ es) = ap (λ bytes. expression_spelling e ++ bytes) (spelled_expressions es)

spellable_values : (vs : List Value) → AllByRecursion IsSpellableValue vs → AreSpellableValues (to_values vs)
spellable_values [] each = tt
spellable_values (v ∷ vs) each = (each.0, spellable_values vs each.1)

spellable_expressions : (es : List Expression) → AllByRecursion IsSpellableExpression es → AreSpellableExpressions (to_expressions es)
spellable_expressions [] each = tt
spellable_expressions (e ∷ es) each = (each.0, spellable_expressions es each.1)

-- the length and the items of the values
abbrev pub counted_spelling : Values → List ℕ
counted_spelling vs = number_spelling (length (values_list vs)) ++ values_spelling vs

pub counted : (vs : List Value) → counted_spelling (to_values vs) ≡ list_spelling value_spelling vs
counted vs = rw (values_listed vs, spelled_values vs) refl

pub arguments : (es : List Expression) → arguments_spelling (to_expressions es) ≡ list_spelling expression_spelling es
arguments es = rw (expressions_listed es, spelled_expressions es) refl

abbrev AreCounted : Values → Type 0
AreCounted vs = IsShort (values_list vs) × AreSpellableValues vs

are_counted : (vs : List Value) → IsSpellableList IsSpellableValue vs → AreCounted (to_values vs)
are_counted vs fits = (rw (values_listed vs) fits.0, spellable_values vs fits.1)

are_arguments : (es : List Expression) → IsSpellableList IsSpellableExpression es → AreSpellableArguments (to_expressions es)
are_arguments es fits = (rw (expressions_listed es) fits.0, spellable_expressions es fits.1)

-- ---- values

abbrev TakesValues : (List ℕ → Found Value) → Type 0
TakesValues read = Takes read value_spelling IsSpellableValue

values_take : (read : List ℕ → Found Value) → TakesValues read → Takes (values_at read) counted_spelling AreCounted
unfolding values_at
values_take read takes = as_takes (list_at read) (list_spelling value_spelling) (IsSpellableList IsSpellableValue) to_values counted_spelling AreCounted counted are_counted (list_takes read value_spelling IsSpellableValue takes)

abbrev AreMembers : Values → Type 0
AreMembers vs = IsShort (values_list vs) × AreSpellableValues vs × RisesBy value_cmp (values_list vs)

rises_then : (x : List Value × List ℕ) (y : Values × List ℕ) → if_rising x ≡ Some y → (rises x.0 ≡ true) × ((to_values x.0, x.1) ≡ y)
rises_then x y = by (rises x.0) refl
  where
    by : (b : Bool) → rises x.0 ≡ b → cond b (Some (to_values x.0, x.1)) None ≡ Some y → (rises x.0 ≡ true) × ((to_values x.0, x.1) ≡ y)
    by true is e = (is, cc e)
    by false is e = absurd cc

members_take : (read : List ℕ → Found Value) → TakesValues read → Takes (members_at read) counted_spelling AreMembers
unfolding members_at
members_take read takes bytes vs rest fits e =
    let a = bind_some (list_at read bytes) if_rising (vs, rest) e in
    let g = rises_then a.0 (vs, rest) a.2 in
    let s = list_takes read value_spelling IsSpellableValue takes bytes a.0.0 a.0.1 fits a.1 in
    let short = are_counted a.0.0 s.fits in
    subst (λ (y : Values × List ℕ). Spells counted_spelling AreMembers bytes y.0 y.1) g.1
    (record { parts = s.parts ∙ ap (λ (t : List ℕ). t ++ a.0.1) (sym (counted a.0.0)); left = s.left; fits = (short.0, short.1, rw (values_listed a.0.0) (told_rises a.0.0 g.0)) })

-- a constructor's number and its fields
abbrev constructor_spelling : ℕ × List Value → List ℕ
constructor_spelling x = number_spelling x.0 ++ list_spelling value_spelling x.1

abbrev IsSpellableConstructor : ℕ × List Value → Type 0
IsSpellableConstructor x = IsNumber x.0 × IsSpellableList IsSpellableValue x.1

some_fields : (k : ℕ) (us : List Value) (left : List ℕ) (v : Value) (rest : List ℕ) → with_some_fields k us left ≡ Some (v, rest) → (tag : ℕ) (bytes : List ℕ) → tag ≡ 0x65
    → Spells constructor_spelling IsSpellableConstructor bytes (k, us) left → Spells value_spelling IsSpellableValue (tag ∷ bytes) v rest
some_fields k [] left v rest e tag bytes is s = absurd (cc e)
some_fields k (u ∷ us) left v rest e tag bytes is s =
    let fields : list_spelling value_spelling (u ∷ us) ≡ counted_spelling (to_values (u ∷ us)) = sym (counted (u ∷ us)) in
    subst (λ (y : Value × List ℕ). Spells value_spelling IsSpellableValue (tag ∷ bytes) y.0 y.1) (some_is (Constructor k (to_values (u ∷ us)), left) (v, rest) e)
    (record {
      parts = ap (λ (t : ℕ). t ∷ bytes) is ∙ ap (λ (t : List ℕ). 0x65 ∷ t) s.parts ∙ ap (λ (t : List ℕ). 0x65 ∷ ((number_spelling k ++ t) ++ left)) fields;
      left = s.left;
      fits = (s.fits.0, are_counted (u ∷ us) s.fits.1);
    })

constructor_takes : (read : List ℕ → Found Value) → TakesValues read → (tag : ℕ) (bytes : List ℕ) (v : Value) (rest : List ℕ) → IsBytes bytes → tag ≡ 0x65
    → constructor_at read bytes ≡ Some (v, rest) → Spells value_spelling IsSpellableValue (tag ∷ bytes) v rest
unfolding constructor_at
constructor_takes read takes tag bytes v rest fits is e =
    let a = bind_some (both number_at (list_at read) bytes) (λ x. with_some_fields x.0.0 x.0.1 x.1) (v, rest) e in
    some_fields a.0.0.0 a.0.0.1 a.0.1 v rest a.2 tag bytes is
    (both_takes number_at (list_at read) number_spelling (list_spelling value_spelling) IsNumber (IsSpellableList IsSpellableValue) number_takes (list_takes read value_spelling IsSpellableValue takes) bytes a.0.0 a.0.1 fits a.1)

value_behind_takes : (read : List ℕ → Found Value) → TakesValues read → (tag : ℕ) (bytes : List ℕ) (v : Value) (rest : List ℕ) → IsBytes bytes → value_behind read tag bytes ≡ Some (v, rest)
    → Spells value_spelling IsSpellableValue (tag ∷ bytes) v rest
unfolding value_behind
value_behind_takes read takes tag bytes v rest fits e =
    at_tag tag 0x60 e (behind_takes whole_at whole_spelling (FitsSigned w32) Integer value_spelling IsSpellableValue tag 0x60 (λ z. refl) (λ z h. h) whole_takes bytes v rest fits) (λ e.
    at_tag tag 0x61 e (behind_takes truth_at truth_spelling (λ b. Unit {0}) Truth value_spelling IsSpellableValue tag 0x61 (λ b. refl) (λ b h. h) truth_takes bytes v rest fits) (λ e.
    at_tag tag 0x62 e (behind_takes number_at number_spelling IsNumber (λ k. Constructor k no_values) value_spelling IsSpellableValue tag 0x62 (λ k. refl) (λ k h. (h, (omega arith, tt))) number_takes bytes v rest fits) (λ e.
    at_tag tag 0x63 e (behind_takes (values_at read) counted_spelling AreCounted Sequence value_spelling IsSpellableValue tag 0x63 (λ vs. refl) (λ vs h. h) (values_take read takes) bytes v rest fits) (λ e.
    at_tag tag 0x64 e (behind_takes (members_at read) counted_spelling AreMembers Set value_spelling IsSpellableValue tag 0x64 (λ vs. refl) (λ vs h. h) (members_take read takes) bytes v rest fits) (λ e.
    at_tag tag 0x65 e (constructor_takes read takes tag bytes v rest fits) (λ e.
    absurd (cc e)))))))

-- a tag, and what is behind it
tag_takes : {X : Type 0} (behind : ℕ → List ℕ → Found X) (spelled : X → List ℕ) (Fits : X → Type 0)
    → ((tag : ℕ) (bytes : List ℕ) (x : X) (rest : List ℕ) → IsBytes bytes → behind tag bytes ≡ Some (x, rest) → Spells spelled Fits (tag ∷ bytes) x rest)
    → Takes (λ bytes. byte_at bytes >>= λ tag. behind tag.0 tag.1) spelled Fits
tag_takes behind spelled Fits takes [] x rest fits e = absurd cc
tag_takes behind spelled Fits takes (tag ∷ bytes) x rest fits e = takes tag bytes x rest (IsBytes-rest tag bytes fits) e

pub value_takes : (n : ℕ) → TakesValues (value_at n)
unfolding value_at
value_takes zero bytes v rest fits e = absurd cc
value_takes (suc n) bytes v rest fits e = tag_takes (value_behind (value_at n)) value_spelling IsSpellableValue (value_behind_takes (value_at n) (value_takes n)) bytes v rest fits e

-- ---- expressions

abbrev TakesExpressions : (List ℕ → Found Expression) → Type 0
TakesExpressions read = Takes read expression_spelling IsSpellableExpression

expressions_take : (read : List ℕ → Found Expression) → TakesExpressions read → Takes (expressions_at read) arguments_spelling AreSpellableArguments
unfolding expressions_at
expressions_take read takes =
    as_takes (list_at read) (list_spelling expression_spelling) (IsSpellableList IsSpellableExpression) to_expressions arguments_spelling AreSpellableArguments arguments are_arguments (list_takes read expression_spelling IsSpellableExpression takes)

tag_of_found : {O : Type 0} (tag_of : O → ℕ) (ops : List O) (tag : ℕ) (op : O) → tagged tag_of ops tag ≡ Some op → tag ≡ tag_of op
tag_of_found tag_of [] tag op e = absurd cc
tag_of_found tag_of (o ∷ ops) tag op e = at_tag tag (tag_of o) e (λ is f. is ∙ ap tag_of (some_is o op f)) (λ f. tag_of_found tag_of ops tag op f)

operation_takes : (read : List ℕ → Found Expression) → TakesExpressions read → (tag : ℕ) (one : Option Unary) (two : Option Binary) → unary_tagged tag ≡ one → binary_tagged tag ≡ two
    → (bytes : List ℕ) (e : Expression) (rest : List ℕ) → IsBytes bytes → operation_at read one two bytes ≡ Some (e, rest) → Spells expression_spelling IsSpellableExpression (tag ∷ bytes) e rest
unfolding unary_tagged binary_tagged
operation_takes read takes tag (Some op) two is is_two bytes e rest fits f =
    behind_takes read expression_spelling IsSpellableExpression (Apply op) expression_spelling IsSpellableExpression tag (unary_tag op) (λ x. refl) (λ x h. h) takes bytes e rest fits (tag_of_found unary_tag unary_operators tag op is) f
operation_takes read takes tag None (Some op) is is_two bytes e rest fits f =
    two_takes read expression_spelling IsSpellableExpression (Combine op) tag (binary_tag op) (λ x y. refl) (λ x y h. h) takes bytes e rest fits (tag_of_found binary_tag binary_operators tag op is_two) f
operation_takes read takes tag None None is is_two bytes e rest fits f = absurd (cc f)

expression_behind_takes : (read_value : List ℕ → Found Value) → TakesValues read_value → (read : List ℕ → Found Expression) → TakesExpressions read
    → (tag : ℕ) (bytes : List ℕ) (x : Expression) (rest : List ℕ) → IsBytes bytes → expression_behind read_value read tag bytes ≡ Some (x, rest) → Spells expression_spelling IsSpellableExpression (tag ∷ bytes) x rest
unfolding expression_behind
expression_behind_takes read_value takes_values read takes tag bytes x rest fits e =
    at_tag tag 0x30 e (behind_takes read_value value_spelling IsSpellableValue Literal expression_spelling IsSpellableExpression tag 0x30 (λ v. refl) (λ v h. h) takes_values bytes x rest fits) (λ e.
    at_tag tag 0x31 e (behind_takes number_at number_spelling IsNumber Name expression_spelling IsSpellableExpression tag 0x31 (λ n. refl) (λ n h. h) number_takes bytes x rest fits) (λ e.
    at_tag tag 0x4b e (behind_takes (expressions_at read) arguments_spelling AreSpellableArguments SequenceOf expression_spelling IsSpellableExpression tag 0x4b (λ es. refl) (λ es h. h) (expressions_take read takes) bytes x rest fits) (λ e.
    at_tag tag 0x4c e (behind_takes (expressions_at read) arguments_spelling AreSpellableArguments SetOf expression_spelling IsSpellableExpression tag 0x4c (λ es. refl) (λ es h. h) (expressions_take read takes) bytes x rest fits) (λ e.
    at_tag tag 0x4d e (two_takes read expression_spelling IsSpellableExpression Range tag 0x4d (λ a b. refl) (λ a b h. h) takes bytes x rest fits) (λ e.
    at_tag tag 0x4e e (alone_takes Booleans expression_spelling IsSpellableExpression tag 0x4e refl tt bytes x rest fits) (λ e.
    at_tag tag 0x4f e (behind_takes number_at number_spelling IsNumber Datatype expression_spelling IsSpellableExpression tag 0x4f (λ n. refl) (λ n h. h) number_takes bytes x rest fits) (λ e.
    at_tag tag 0x50 e (behind_takes number_at number_spelling IsNumber Nametype expression_spelling IsSpellableExpression tag 0x50 (λ n. refl) (λ n h. h) number_takes bytes x rest fits) (λ e.
    at_tag tag 0x51 e (behind_takes (both number_at (expressions_at read)) (λ (y : ℕ × Expressions). number_spelling y.0 ++ arguments_spelling y.1) (λ (y : ℕ × Expressions). IsNumber y.0 × AreSpellableArguments y.1) (λ y. ConstructorOf y.0 y.1) expression_spelling IsSpellableExpression tag 0x51
    (λ y. refl) (λ y h. h) (both_takes number_at (expressions_at read) number_spelling arguments_spelling IsNumber AreSpellableArguments number_takes (expressions_take read takes)) bytes x rest fits) (λ e.
    operation_takes read takes tag (unary_tagged tag) (binary_tagged tag) refl refl bytes x rest fits e)))))))))

pub expression_takes : (n : ℕ) → TakesExpressions (expression_at n)
unfolding expression_at
expression_takes zero bytes v rest fits e = absurd cc
expression_takes (suc n) bytes v rest fits e =
    tag_takes (expression_behind (value_at n) (expression_at n)) expression_spelling IsSpellableExpression (expression_behind_takes (value_at n) (value_takes n) (expression_at n) (expression_takes n)) bytes v rest fits e

-- ---- fields, events and sets of events

from_takes : (n : ℕ) → Takes (both number_at (expression_at n)) (λ (x : ℕ × Expression). number_spelling x.0 ++ expression_spelling x.1) (λ (x : ℕ × Expression). (x.0 < 2 ^ 32) × IsSpellableExpression x.1)
from_takes n = both_takes number_at (expression_at n) number_spelling expression_spelling IsNumber IsSpellableExpression number_takes (expression_takes n)

field_behind_takes : (n tag : ℕ) (bytes : List ℕ) (x : Field) (rest : List ℕ) → IsBytes bytes → field_behind n tag bytes ≡ Some (x, rest) → Spells field_spelling IsSpellableField (tag ∷ bytes) x rest
unfolding field_behind
field_behind_takes n tag bytes x rest fits e =
    at_tag tag 0x20 e (behind_takes (expression_at n) expression_spelling IsSpellableExpression Given field_spelling IsSpellableField tag 0x20 (λ y. refl) (λ y h. h) (expression_takes n) bytes x rest fits) (λ e.
    at_tag tag 0x21 e (behind_takes number_at number_spelling IsNumber Input field_spelling IsSpellableField tag 0x21 (λ y. refl) (λ y h. h) number_takes bytes x rest fits) (λ e.
    at_tag tag 0x22 e (behind_takes (both number_at (expression_at n)) (λ (y : ℕ × Expression). number_spelling y.0 ++ expression_spelling y.1) (λ (y : ℕ × Expression). (y.0 < 2 ^ 32) × IsSpellableExpression y.1) (λ y. InputFrom y.0 y.1) field_spelling IsSpellableField tag 0x22
    (λ y. refl) (λ y h. h) (from_takes n) bytes x rest fits) (λ e.
    absurd (cc e))))

pub field_takes : (n : ℕ) → Takes (field_at n) field_spelling IsSpellableField
unfolding field_at
field_takes n = tag_takes (field_behind n) field_spelling IsSpellableField (field_behind_takes n)

numbered_takes : (n : ℕ) → Takes (both number_at (expressions_at (expression_at n))) (λ (x : ℕ × Expressions). number_spelling x.0 ++ arguments_spelling x.1) (λ (x : ℕ × Expressions). (x.0 < 2 ^ 32) × AreSpellableArguments x.1)
numbered_takes n = both_takes number_at (expressions_at (expression_at n)) number_spelling arguments_spelling IsNumber AreSpellableArguments number_takes (expressions_take (expression_at n) (expression_takes n))

pub event_takes : (n : ℕ) → Takes (event_at n) event_spelling IsSpellableEvent
unfolding event_at
event_takes n =
    as_takes (both number_at (expressions_at (expression_at n))) (λ (x : ℕ × Expressions). number_spelling x.0 ++ arguments_spelling x.1) (λ (x : ℕ × Expressions). (x.0 < 2 ^ 32) × AreSpellableArguments x.1) event_of_parts event_spelling IsSpellableEvent
    (λ x. refl) (λ x h. h) (numbered_takes n)

pub pair_takes : (n : ℕ) → Takes (pair_at n) pair_spelling IsSpellablePair
unfolding pair_at
pair_takes n =
    as_takes (both (event_at n) (event_at n)) (λ (x : EventExpression × EventExpression). event_spelling x.0 ++ event_spelling x.1) (λ (x : EventExpression × EventExpression). IsSpellableEvent x.0 × IsSpellableEvent x.1) pair_of_sides pair_spelling IsSpellablePair
    (λ x. refl) (λ x h. h) (both_takes (event_at n) (event_at n) event_spelling event_spelling IsSpellableEvent IsSpellableEvent (event_takes n) (event_takes n))

abbrev TakesEventSets : (List ℕ → Found EventSet) → Type 0
TakesEventSets read = Takes read event_set_spelling IsSpellableEventSet

event_set_behind_takes : (n : ℕ) (read : List ℕ → Found EventSet) → TakesEventSets read → (tag : ℕ) (bytes : List ℕ) (x : EventSet) (rest : List ℕ) → IsBytes bytes → event_set_behind n read tag bytes ≡ Some (x, rest)
    → Spells event_set_spelling IsSpellableEventSet (tag ∷ bytes) x rest
unfolding event_set_behind
event_set_behind_takes n read takes tag bytes x rest fits e =
    let events = list_takes (event_at n) event_spelling IsSpellableEvent (event_takes n) in
    at_tag tag 0x28 e (behind_takes (list_at (event_at n)) (list_spelling event_spelling) (IsSpellableList IsSpellableEvent) Enumeration event_set_spelling IsSpellableEventSet tag 0x28 (λ es. refl) (λ es h. h) events bytes x rest fits) (λ e.
    at_tag tag 0x29 e (behind_takes (list_at (event_at n)) (list_spelling event_spelling) (IsSpellableList IsSpellableEvent) Productions event_set_spelling IsSpellableEventSet tag 0x29 (λ es. refl) (λ es h. h) events bytes x rest fits) (λ e.
    at_tag tag 0x2a e (two_takes read event_set_spelling IsSpellableEventSet EventUnion tag 0x2a (λ a b. refl) (λ a b h. h) takes bytes x rest fits) (λ e.
    at_tag tag 0x2b e (two_takes read event_set_spelling IsSpellableEventSet EventIntersection tag 0x2b (λ a b. refl) (λ a b h. h) takes bytes x rest fits) (λ e.
    at_tag tag 0x2c e (two_takes read event_set_spelling IsSpellableEventSet EventDifference tag 0x2c (λ a b. refl) (λ a b h. h) takes bytes x rest fits) (λ e.
    absurd (cc e))))))

pub event_set_takes : (n : ℕ) → TakesEventSets (event_set_at n)
unfolding event_set_at
event_set_takes zero bytes x rest fits e = absurd cc
event_set_takes (suc n) bytes x rest fits e = tag_takes (event_set_behind n (event_set_at n)) event_set_spelling IsSpellableEventSet (event_set_behind_takes n (event_set_at n) (event_set_takes n)) bytes x rest fits e

-- ---- processes

abbrev TakesProcesses : (List ℕ → Found Process) → Type 0
TakesProcesses read = Takes read spelling IsSpellable

-- a process that was read behind its tag
abbrev Behind : (List ℕ → Found Process) → ℕ → ℕ → Type 0
Behind read tag k = (bytes : List ℕ) (x : Process) (rest : List ℕ) → IsBytes bytes → tag ≡ k → read bytes ≡ Some (x, rest) → Spells spelling IsSpellable (tag ∷ bytes) x rest

call_takes : (n : ℕ) (read : List ℕ → Found Process) → TakesProcesses read → (tag : ℕ) → Behind (call_at n) tag 0x04
unfolding call_at
call_takes n read takes tag =
    behind_takes (both number_at (expressions_at (expression_at n))) (λ (y : ℕ × Expressions). number_spelling y.0 ++ arguments_spelling y.1) (λ (y : ℕ × Expressions). (IsNumber y.0) × (AreSpellableArguments y.1)) (λ y. Call y.0 y.1) spelling IsSpellable tag 0x04 (λ y. refl) (λ y h. h)
    (both_takes number_at (expressions_at (expression_at n)) number_spelling arguments_spelling IsNumber AreSpellableArguments number_takes (expressions_take (expression_at n) (expression_takes n)))

prefix_takes : (n : ℕ) (read : List ℕ → Found Process) → TakesProcesses read → (tag : ℕ) → Behind (prefix_at n read) tag 0x05
unfolding prefix_at
prefix_takes n read takes tag =
    behind_takes (both (both number_at (list_at (field_at n))) read) (λ (y : (ℕ × (List Field)) × Process). number_spelling y.0.0 ++ (list_spelling field_spelling) y.0.1 ++ spelling y.1) (λ (y : (ℕ × (List Field)) × Process). ((IsNumber y.0.0) × ((IsSpellableList IsSpellableField) y.0.1)) × (IsSpellable y.1)) (λ y. Prefix y.0.0 y.0.1 y.1) spelling IsSpellable tag 0x05 (λ y. refl) (λ y h. (h.0.0, h.0.1, h.1))
    (both_takes (both number_at (list_at (field_at n))) read (λ (y : (ℕ × (List Field))). number_spelling y.0 ++ (list_spelling field_spelling) y.1) spelling (λ (y : (ℕ × (List Field))). (IsNumber y.0) × ((IsSpellableList IsSpellableField) y.1)) IsSpellable (both_takes number_at (list_at (field_at n)) number_spelling (list_spelling field_spelling) IsNumber (IsSpellableList IsSpellableField) number_takes (list_takes (field_at n) field_spelling IsSpellableField (field_takes n))) takes)

guard_takes : (n : ℕ) (read : List ℕ → Found Process) → TakesProcesses read → (tag : ℕ) → Behind (guard_at n read) tag 0x06
unfolding guard_at
guard_takes n read takes tag =
    behind_takes (both (expression_at n) read) (λ (y : Expression × Process). expression_spelling y.0 ++ spelling y.1) (λ (y : Expression × Process). (IsSpellableExpression y.0) × (IsSpellable y.1)) (λ y. Guard y.0 y.1) spelling IsSpellable tag 0x06 (λ y. refl) (λ y h. h)
    (both_takes (expression_at n) read expression_spelling spelling IsSpellableExpression IsSpellable (expression_takes n) takes)

if_takes : (n : ℕ) (read : List ℕ → Found Process) → TakesProcesses read → (tag : ℕ) → Behind (if_at n read) tag 0x07
unfolding if_at
if_takes n read takes tag =
    behind_takes (both (both (expression_at n) read) read) (λ (y : (Expression × Process) × Process). expression_spelling y.0.0 ++ spelling y.0.1 ++ spelling y.1) (λ (y : (Expression × Process) × Process). ((IsSpellableExpression y.0.0) × (IsSpellable y.0.1)) × (IsSpellable y.1)) (λ y. If y.0.0 y.0.1 y.1) spelling IsSpellable tag 0x07 (λ y. refl) (λ y h. (h.0.0, h.0.1, h.1))
    (both_takes (both (expression_at n) read) read (λ (y : (Expression × Process)). expression_spelling y.0 ++ spelling y.1) spelling (λ (y : (Expression × Process)). (IsSpellableExpression y.0) × (IsSpellable y.1)) IsSpellable (both_takes (expression_at n) read expression_spelling spelling IsSpellableExpression IsSpellable (expression_takes n) takes) takes)

generalised_takes : (n : ℕ) (read : List ℕ → Found Process) → TakesProcesses read → (tag : ℕ) → Behind (generalised_at n read) tag 0x0d
unfolding generalised_at
generalised_takes n read takes tag =
    behind_takes (both (both read (event_set_at n)) read) (λ (y : (Process × EventSet) × Process). spelling y.0.0 ++ event_set_spelling y.0.1 ++ spelling y.1) (λ (y : (Process × EventSet) × Process). ((IsSpellable y.0.0) × (IsSpellableEventSet y.0.1)) × (IsSpellable y.1)) (λ y. GeneralisedParallel y.0.0 y.0.1 y.1) spelling IsSpellable tag 0x0d (λ y. refl) (λ y h. (h.0.0, h.0.1, h.1))
    (both_takes (both read (event_set_at n)) read (λ (y : (Process × EventSet)). spelling y.0 ++ event_set_spelling y.1) spelling (λ (y : (Process × EventSet)). (IsSpellable y.0) × (IsSpellableEventSet y.1)) IsSpellable (both_takes read (event_set_at n) spelling event_set_spelling IsSpellable IsSpellableEventSet takes (event_set_takes n)) takes)

alphabetised_takes : (n : ℕ) (read : List ℕ → Found Process) → TakesProcesses read → (tag : ℕ) → Behind (alphabetised_at n read) tag 0x0e
unfolding alphabetised_at
alphabetised_takes n read takes tag =
    behind_takes (both (both (both read (event_set_at n)) (event_set_at n)) read) (λ (y : ((Process × EventSet) × EventSet) × Process). spelling y.0.0.0 ++ event_set_spelling y.0.0.1 ++ event_set_spelling y.0.1 ++ spelling y.1) (λ (y : ((Process × EventSet) × EventSet) × Process). (((IsSpellable y.0.0.0) × (IsSpellableEventSet y.0.0.1)) × (IsSpellableEventSet y.0.1)) × (IsSpellable y.1)) (λ y. AlphabetisedParallel y.0.0.0 y.0.0.1 y.0.1 y.1) spelling IsSpellable tag 0x0e (λ y. refl) (λ y h. (h.0.0.0, h.0.0.1, h.0.1, h.1))
    (both_takes (both (both read (event_set_at n)) (event_set_at n)) read (λ (y : ((Process × EventSet) × EventSet)). spelling y.0.0 ++ event_set_spelling y.0.1 ++ event_set_spelling y.1) spelling (λ (y : ((Process × EventSet) × EventSet)). ((IsSpellable y.0.0) × (IsSpellableEventSet y.0.1)) × (IsSpellableEventSet y.1)) IsSpellable (both_takes (both read (event_set_at n)) (event_set_at n) (λ (y : (Process × EventSet)). spelling y.0 ++ event_set_spelling y.1) event_set_spelling (λ (y : (Process × EventSet)). (IsSpellable y.0) × (IsSpellableEventSet y.1)) IsSpellableEventSet (both_takes read (event_set_at n) spelling event_set_spelling IsSpellable IsSpellableEventSet takes (event_set_takes n)) (event_set_takes n)) takes)

hiding_takes : (n : ℕ) (read : List ℕ → Found Process) → TakesProcesses read → (tag : ℕ) → Behind (hiding_at n read) tag 0x0f
unfolding hiding_at
hiding_takes n read takes tag =
    behind_takes (both read (event_set_at n)) (λ (y : Process × EventSet). spelling y.0 ++ event_set_spelling y.1) (λ (y : Process × EventSet). (IsSpellable y.0) × (IsSpellableEventSet y.1)) (λ y. Hiding y.0 y.1) spelling IsSpellable tag 0x0f (λ y. refl) (λ y h. h)
    (both_takes read (event_set_at n) spelling event_set_spelling IsSpellable IsSpellableEventSet takes (event_set_takes n))

renaming_takes : (n : ℕ) (read : List ℕ → Found Process) → TakesProcesses read → (tag : ℕ) → Behind (renaming_at n read) tag 0x10
unfolding renaming_at
renaming_takes n read takes tag =
    behind_takes (both read (list_at (pair_at n))) (λ (y : Process × (List RenamingPair)). spelling y.0 ++ (list_spelling pair_spelling) y.1) (λ (y : Process × (List RenamingPair)). (IsSpellable y.0) × ((IsSpellableList IsSpellablePair) y.1)) (λ y. Renaming y.0 y.1) spelling IsSpellable tag 0x10 (λ y. refl) (λ y h. h)
    (both_takes read (list_at (pair_at n)) spelling (list_spelling pair_spelling) IsSpellable (IsSpellableList IsSpellablePair) takes (list_takes (pair_at n) pair_spelling IsSpellablePair (pair_takes n)))

replicated_takes : (n : ℕ) (read : List ℕ → Found Process) → TakesProcesses read → (made : ℕ → Expression → Process → Process) (tag k : ℕ)
    → ((x : ℕ) (e : Expression) (p : Process) → spelling (made x e p) ≡ k ∷ (number_spelling x ++ expression_spelling e ++ spelling p)) → ((x : ℕ) (e : Expression) (p : Process) → x < 2 ^ 32 → IsSpellableExpression e → IsSpellable p → IsSpellable (made x e p))
    → Behind (replicated_at n read made) tag k
unfolding replicated_at
replicated_takes n read takes made tag k same fit =
    behind_takes (both (both number_at (expression_at n)) read) (λ (y : (ℕ × Expression) × Process). number_spelling y.0.0 ++ expression_spelling y.0.1 ++ spelling y.1) (λ (y : (ℕ × Expression) × Process). ((IsNumber y.0.0) × (IsSpellableExpression y.0.1)) × (IsSpellable y.1)) (λ y. made y.0.0 y.0.1 y.1) spelling IsSpellable tag k (λ y. same y.0.0 y.0.1 y.1) (λ y h. fit y.0.0 y.0.1 y.1 h.0.0 h.0.1 h.1)
    (both_takes (both number_at (expression_at n)) read (λ (y : (ℕ × Expression)). number_spelling y.0 ++ expression_spelling y.1) spelling (λ (y : (ℕ × Expression)). (IsNumber y.0) × (IsSpellableExpression y.1)) IsSpellable (both_takes number_at (expression_at n) number_spelling expression_spelling IsNumber IsSpellableExpression number_takes (expression_takes n)) takes)

process_behind_takes : (n : ℕ) (read : List ℕ → Found Process) → TakesProcesses read → (tag : ℕ) (bytes : List ℕ) (x : Process) (rest : List ℕ) → IsBytes bytes → process_behind n read tag bytes ≡ Some (x, rest)
    → Spells spelling IsSpellable (tag ∷ bytes) x rest
unfolding process_behind
process_behind_takes n read takes tag bytes x rest fits e =
    at_tag tag 0x01 e (alone_takes Stop spelling IsSpellable tag 0x01 refl tt bytes x rest fits) (λ e.
    at_tag tag 0x02 e (alone_takes Skip spelling IsSpellable tag 0x02 refl tt bytes x rest fits) (λ e.
    at_tag tag 0x03 e (alone_takes Omega spelling IsSpellable tag 0x03 refl tt bytes x rest fits) (λ e.
    at_tag tag 0x04 e (call_takes n read takes tag bytes x rest fits) (λ e.
    at_tag tag 0x05 e (prefix_takes n read takes tag bytes x rest fits) (λ e.
    at_tag tag 0x06 e (guard_takes n read takes tag bytes x rest fits) (λ e.
    at_tag tag 0x07 e (if_takes n read takes tag bytes x rest fits) (λ e.
    at_tag tag 0x08 e (two_takes read spelling IsSpellable ExternalChoice tag 0x08 (λ p q. refl) (λ p q h. h) takes bytes x rest fits) (λ e.
    at_tag tag 0x09 e (two_takes read spelling IsSpellable InternalChoice tag 0x09 (λ p q. refl) (λ p q h. h) takes bytes x rest fits) (λ e.
    at_tag tag 0x0a e (two_takes read spelling IsSpellable Sequential tag 0x0a (λ p q. refl) (λ p q h. h) takes bytes x rest fits) (λ e.
    at_tag tag 0x0b e (two_takes read spelling IsSpellable Interleaving tag 0x0b (λ p q. refl) (λ p q h. h) takes bytes x rest fits) (λ e.
    at_tag tag 0x0c e (two_takes read spelling IsSpellable Interrupt tag 0x0c (λ p q. refl) (λ p q h. h) takes bytes x rest fits) (λ e.
    at_tag tag 0x0d e (generalised_takes n read takes tag bytes x rest fits) (λ e.
    at_tag tag 0x0e e (alphabetised_takes n read takes tag bytes x rest fits) (λ e.
    at_tag tag 0x0f e (hiding_takes n read takes tag bytes x rest fits) (λ e.
    at_tag tag 0x10 e (renaming_takes n read takes tag bytes x rest fits) (λ e.
    at_tag tag 0x11 e (replicated_takes n read takes ReplicatedExternalChoice tag 0x11 (λ m f p. refl) (λ m f p a b c. (a, b, c)) bytes x rest fits) (λ e.
    at_tag tag 0x12 e (replicated_takes n read takes ReplicatedInternalChoice tag 0x12 (λ m f p. refl) (λ m f p a b c. (a, b, c)) bytes x rest fits) (λ e.
    at_tag tag 0x13 e (replicated_takes n read takes ReplicatedInterleaving tag 0x13 (λ m f p. refl) (λ m f p a b c. (a, b, c)) bytes x rest fits) (λ e.
    at_tag tag 0x14 e (two_takes read spelling IsSpellable SlidingChoice tag 0x14 (λ p q. refl) (λ p q h. h) takes bytes x rest fits) (λ e.
    absurd (cc e)))))))))))))))))))))

pub process_takes : (n : ℕ) → TakesProcesses (process_at n)
unfolding process_at
process_takes zero bytes x rest fits e = absurd cc
process_takes (suc n) bytes x rest fits e = tag_takes (process_behind n (process_at n)) spelling IsSpellable (process_behind_takes n (process_at n) (process_takes n)) bytes x rest fits e
