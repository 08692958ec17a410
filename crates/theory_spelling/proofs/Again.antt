-- What is spelled is read again, whatever is behind it.
use Rattle.std.proofs.Common.{◌≡◌, ℕ, zero, suc, ◌^◌, ◌<◌, ◌≤◌, true, List, [], ◌∷◌, ◌++◌, length, Some, refl, ap, subst, ◌∙◌, arith}
use Rattle.std.specs.List.{flat_map, AllByRecursion}
use Rattle.theory_syntax.specs.Value.{Value, Integer, Truth, Constructor, Sequence, Set, Values, no_values, value_and, to_values, values_list, value_cmp}
use Rattle.theory_syntax.specs.Expression.{Unary, Negate, Not, Length, Head, Tail, IsNull, Card, Binary, Add, Subtract, Multiply, Modulus, Concatenate, Equals, Differs, LessThan, AtMost, GreaterThan, AtLeast, And, Or, IsElement, IsMember, Union, Intersection, Difference, Expression, Literal, Name, Apply, Combine, SequenceOf, SetOf, Range, Booleans, Datatype, Nametype, ConstructorOf, Expressions, no_expressions, expression_and, to_expressions, expressions_list}
use Rattle.theory_syntax.specs.Process.{Field, Given, Input, InputFrom, EventSet, Enumeration, Productions, EventUnion, EventIntersection, EventDifference, RenamingPair, Process, Stop, Skip, Omega, Call, Prefix, Guard, If, ExternalChoice, InternalChoice, Sequential, Interleaving, Interrupt, GeneralisedParallel, AlphabetisedParallel, Hiding, Renaming, ReplicatedExternalChoice, ReplicatedInternalChoice, ReplicatedInterleaving, SlidingChoice}
use Rattle.theory_semantics.specs.Meaning.Offers.{RisesBy, rises}
use Rattle.theory_spelling.specs.Spelling.{number_spelling, list_spelling, value_spelling, values_spelling, unary_tag, binary_tag, expression_spelling, expressions_spelling, arguments_spelling, field_spelling, event_spelling, event_set_spelling, pair_spelling, spelling}
use Rattle.theory_spelling.specs.Spellable.{IsSpellableValue, AreSpellableValues, IsSpellableExpression, AreSpellableExpressions, AreSpellableArguments, IsSpellableList, IsSpellableField, IsSpellableEvent, IsSpellableEventSet, IsSpellablePair, IsSpellable}
use Rattle.theory_semantics.proofs.RisingValues.{rises_told}
use Rattle.theory_spelling.specs.Reading.{Found, ◌>>=◌, found_as, both, number_at, list_at, two_at, values_at, if_rising, members_at, with_some_fields, constructor_at, value_behind, value_at, unary_tagged, binary_tagged, expressions_at, expression_behind, expression_at, field_behind, field_at, event_of_parts, event_at, pair_of_sides, pair_at, event_set_behind, event_set_at, call_at, prefix_at, guard_at, if_at, generalised_at, alphabetised_at, hiding_at, renaming_at, replicated_at, process_behind, process_at}
use Rattle.std.proofs.lemmas.List.{length-append}
use Rattle.theory_spelling.proofs.Numbers.{Again, number_again, whole_again, truth_again}
use Rattle.theory_spelling.proofs.Parts.{both_again, two_again, list_again}
use Rattle.theory_spelling.proofs.Taking.{counted_spelling}

within_left : (xs ys : List ℕ) (n : ℕ) → length (xs ++ ys) ≤ n → length xs ≤ n
within_left xs ys n le = omega (arith, length-append xs ys)

within_right : (xs ys : List ℕ) (n : ℕ) → length (xs ++ ys) ≤ n → length ys ≤ n
within_right xs ys n le = omega (arith, length-append xs ys)

-- ---- lists

-- what is spelled in at most so many bytes is read again
abbrev ReadsWithin : {X : Type 0} → (List ℕ → Found X) → (X → List ℕ) → (X → Type 0) → ℕ → Type 0
ReadsWithin {X} read spelled Fits n = (x : X) → length (spelled x) ≤ n → Fits x → Again read spelled x

each_again : {X : Type 0} (read : List ℕ → Found X) (spelled : X → List ℕ) (Fits : X → Type 0) (n : ℕ) → ReadsWithin read spelled Fits n
    → (xs : List X) → length (flat_map spelled xs) ≤ n → AllByRecursion Fits xs → AllByRecursion (Again read spelled) xs
each_again read spelled Fits n again [] le fits = tt
each_again read spelled Fits n again (x ∷ xs) le fits =
    (again x (within_left (spelled x) (flat_map spelled xs) n le) fits.0, each_again read spelled Fits n again xs (within_right (spelled x) (flat_map spelled xs) n le) fits.1)

listed_again : {X : Type 0} (read : List ℕ → Found X) (spelled : X → List ℕ) (Fits : X → Type 0) (n : ℕ) → ReadsWithin read spelled Fits n → ReadsWithin (list_at read) (list_spelling spelled) (IsSpellableList Fits) n
listed_again read spelled Fits n again xs le fits =
    list_again read spelled xs fits.0 (each_again read spelled Fits n again xs (within_right (number_spelling (length xs)) (flat_map spelled xs) n le) fits.1)

pub values_made : (vs : Values) → to_values (values_list vs) ≡ vs
values_made no_values = refl
values_made (value_and v vs) = ap (value_and v) (values_made vs)

values_flat : (vs : Values) → values_spelling vs ≡ flat_map value_spelling (values_list vs)
values_flat no_values = refl
values_flat (value_and v vs) = ap (λ bytes. value_spelling v ++ bytes) (values_flat vs)

values_each : (vs : Values) → AreSpellableValues vs → AllByRecursion IsSpellableValue (values_list vs)
values_each no_values fits = tt
values_each (value_and v vs) fits = (fits.0, values_each vs fits.1)

pub expressions_made : (es : Expressions) → to_expressions (expressions_list es) ≡ es
expressions_made no_expressions = refl
expressions_made (expression_and e es) = ap (expression_and e) (expressions_made es)

expressions_flat : (es : Expressions) → expressions_spelling es ≡ flat_map expression_spelling (expressions_list es)
expressions_flat no_expressions = refl
expressions_flat (expression_and e es) = ap (λ bytes. expression_spelling e ++ bytes) (expressions_flat es)

expressions_each : (es : Expressions) → AreSpellableExpressions es → AllByRecursion IsSpellableExpression (expressions_list es)
expressions_each no_expressions fits = tt
expressions_each (expression_and e es) fits = (fits.0, expressions_each es fits.1)

-- ---- values

counted_flat : (vs : Values) → counted_spelling vs ≡ list_spelling value_spelling (values_list vs)
counted_flat vs = ap (λ (bytes : List ℕ). number_spelling (length (values_list vs)) ++ bytes) (values_flat vs)

counted_again : (read : List ℕ → Found Value) (n : ℕ) → ReadsWithin read value_spelling IsSpellableValue n → (vs : Values) → length (counted_spelling vs) ≤ n → length (values_list vs) < 2 ^ 32 → AreSpellableValues vs
    → (rest : List ℕ) → list_at read (counted_spelling vs ++ rest) ≡ Some (values_list vs, rest)
counted_again read n again vs le short fits rest =
    ap (λ (bytes : List ℕ). list_at read (bytes ++ rest)) (counted_flat vs)
    ∙ listed_again read value_spelling IsSpellableValue n again (values_list vs) (subst (λ (bytes : List ℕ). length bytes ≤ n) (counted_flat vs) le) (short, values_each vs fits) rest

values_again : (read : List ℕ → Found Value) (n : ℕ) → ReadsWithin read value_spelling IsSpellableValue n → (vs : Values) → length (counted_spelling vs) ≤ n → length (values_list vs) < 2 ^ 32 → AreSpellableValues vs
    → Again (values_at read) counted_spelling vs
unfolding values_at
values_again read n again vs le short fits rest = ap (found_as to_values) (counted_again read n again vs le short fits rest) ∙ ap (λ (ws : Values). Some (ws, rest)) (values_made vs)

if_risen : (vs : List Value) (rest : List ℕ) → rises vs ≡ true → if_rising (vs, rest) ≡ Some (to_values vs, rest)
if_risen vs rest is = rw is refl

members_again : (read : List ℕ → Found Value) (n : ℕ) → ReadsWithin read value_spelling IsSpellableValue n → (vs : Values) → length (counted_spelling vs) ≤ n → length (values_list vs) < 2 ^ 32 → AreSpellableValues vs → RisesBy value_cmp (values_list vs)
    → Again (members_at read) counted_spelling vs
unfolding members_at
members_again read n again vs le short fits rising rest =
    ap (λ r. r >>= if_rising) (counted_again read n again vs le short fits rest) ∙ if_risen (values_list vs) rest (rises_told (values_list vs) rising) ∙ ap (λ (ws : Values). Some (ws, rest)) (values_made vs)

constructor_again : (read : List ℕ → Found Value) (n : ℕ) → ReadsWithin read value_spelling IsSpellableValue n → (k : ℕ) (v : Value) (vs : Values)
    → length (number_spelling k ++ counted_spelling (value_and v vs)) ≤ n → k < 2 ^ 32 → length (values_list (value_and v vs)) < 2 ^ 32 → AreSpellableValues (value_and v vs)
    → (rest : List ℕ) → constructor_at read ((number_spelling k ++ counted_spelling (value_and v vs)) ++ rest) ≡ Some (Constructor k (value_and v vs), rest)
unfolding constructor_at
constructor_again read n again k v vs le small short fits rest =
    let fields : Values = value_and v vs in
    let within : length (counted_spelling (value_and v vs)) ≤ n = within_right (number_spelling k) (counted_spelling (value_and v vs)) n le in
    ap (λ (bytes : List ℕ). constructor_at read ((number_spelling k ++ bytes) ++ rest)) (counted_flat (value_and v vs))
    ∙ ap (λ (r : Found (ℕ × List Value)). r >>= λ x. with_some_fields x.0.0 x.0.1 x.1) (both_again number_at (list_at read) number_spelling (list_spelling value_spelling) k (values_list (value_and v vs)) (number_again k small)
    (listed_again read value_spelling IsSpellableValue n again (values_list (value_and v vs)) (subst (λ (bytes : List ℕ). length bytes ≤ n) (counted_flat (value_and v vs)) within) (short, values_each (value_and v vs) fits)) rest)
    ∙ ap (λ (ws : Values). Some (Constructor k ws, rest)) (values_made (value_and v vs))

some_value : (v : Value) → 0 < length (value_spelling v)
some_value (Integer z) = omega arith
some_value (Truth b) = omega arith
some_value (Constructor k no_values) = omega arith
some_value (Constructor k (value_and v vs)) = omega arith
some_value (Sequence vs) = omega arith
some_value (Set vs) = omega arith

pub value_again : (n : ℕ) → ReadsWithin (value_at n) value_spelling IsSpellableValue n
unfolding value_at value_behind
value_again zero v le fits rest = absurd (omega (arith, some_value v))
value_again (suc n) (Integer z) le fits rest = ap (found_as Integer) (whole_again z fits rest)
value_again (suc n) (Truth b) le fits rest = ap (found_as Truth) (truth_again b rest)
value_again (suc n) (Constructor k no_values) le fits rest = ap (found_as (λ (i : ℕ). Constructor i no_values)) (number_again k fits.0 rest)
value_again (suc n) (Constructor k (value_and v vs)) le fits rest = constructor_again (value_at n) n (value_again n) k v vs (omega arith) fits.0 fits.1.0 fits.1.1 rest
value_again (suc n) (Sequence vs) le fits rest = ap (found_as Sequence) (values_again (value_at n) n (value_again n) vs (omega arith) fits.0 fits.1 rest)
value_again (suc n) (Set vs) le fits rest = ap (found_as Set) (members_again (value_at n) n (value_again n) vs (omega arith) fits.0 fits.1 fits.2 rest)

-- ---- expressions

arguments_flat : (es : Expressions) → arguments_spelling es ≡ list_spelling expression_spelling (expressions_list es)
arguments_flat es = ap (λ (bytes : List ℕ). number_spelling (length (expressions_list es)) ++ bytes) (expressions_flat es)

arguments_again : (read : List ℕ → Found Expression) (n : ℕ) → ReadsWithin read expression_spelling IsSpellableExpression n → ReadsWithin (expressions_at read) arguments_spelling AreSpellableArguments n
unfolding expressions_at
arguments_again read n again es le fits rest =
    ap (λ (bytes : List ℕ). found_as to_expressions (list_at read (bytes ++ rest))) (arguments_flat es)
    ∙ ap (found_as to_expressions) (listed_again read expression_spelling IsSpellableExpression n again (expressions_list es) (subst (λ (bytes : List ℕ). length bytes ≤ n) (arguments_flat es) le) (fits.0, expressions_each es fits.1) rest)
    ∙ ap (λ (fs : Expressions). Some (fs, rest)) (expressions_made es)

applied : (read_value : List ℕ → Found Value) (read : List ℕ → Found Expression) (op : Unary) (bytes : List ℕ) → expression_behind read_value read (unary_tag op) bytes ≡ found_as (Apply op) (read bytes)
unfolding expression_behind unary_tagged binary_tagged
applied read_value read Negate bytes = refl
applied read_value read Not bytes = refl
applied read_value read Length bytes = refl
applied read_value read Head bytes = refl
applied read_value read Tail bytes = refl
applied read_value read IsNull bytes = refl
applied read_value read Card bytes = refl

combined : (read_value : List ℕ → Found Value) (read : List ℕ → Found Expression) (op : Binary) (bytes : List ℕ) → expression_behind read_value read (binary_tag op) bytes ≡ two_at read (Combine op) bytes
unfolding expression_behind unary_tagged binary_tagged
combined read_value read Add bytes = refl
combined read_value read Subtract bytes = refl
combined read_value read Multiply bytes = refl
combined read_value read Modulus bytes = refl
combined read_value read Concatenate bytes = refl
combined read_value read Equals bytes = refl
combined read_value read Differs bytes = refl
combined read_value read LessThan bytes = refl
combined read_value read AtMost bytes = refl
combined read_value read GreaterThan bytes = refl
combined read_value read AtLeast bytes = refl
combined read_value read And bytes = refl
combined read_value read Or bytes = refl
combined read_value read IsElement bytes = refl
combined read_value read IsMember bytes = refl
combined read_value read Union bytes = refl
combined read_value read Intersection bytes = refl
combined read_value read Difference bytes = refl

some_expression : (e : Expression) → 0 < length (expression_spelling e)
some_expression (Literal v) = omega arith
some_expression (Name n) = omega arith
some_expression (Apply op e) = omega arith
some_expression (Combine op e f) = omega arith
some_expression (SequenceOf es) = omega arith
some_expression (SetOf es) = omega arith
some_expression (Range e f) = omega arith
some_expression Booleans = omega arith
some_expression (Datatype d) = omega arith
some_expression (Nametype n) = omega arith
some_expression (ConstructorOf k es) = omega arith

pub expression_again : (n : ℕ) → ReadsWithin (expression_at n) expression_spelling IsSpellableExpression n
unfolding expression_at expression_behind
expression_again zero e le fits rest = absurd (omega (arith, some_expression e))
expression_again (suc n) (Literal v) le fits rest = ap (found_as Literal) (value_again n v (omega arith) fits rest)
expression_again (suc n) (Name k) le fits rest = ap (found_as Name) (number_again k fits rest)
expression_again (suc n) (Apply op e) le fits rest = applied (value_at n) (expression_at n) op (expression_spelling e ++ rest) ∙ ap (found_as (Apply op)) (expression_again n e (omega arith) fits rest)
expression_again (suc n) (Combine op e f) le fits rest =
    combined (value_at n) (expression_at n) op ((expression_spelling e ++ expression_spelling f) ++ rest)
    ∙ two_again (expression_at n) expression_spelling (Combine op) e f (expression_again n e (within_left (expression_spelling e) (expression_spelling f) n (omega arith)) fits.0) (expression_again n f (within_right (expression_spelling e) (expression_spelling f) n (omega arith)) fits.1) rest
expression_again (suc n) (SequenceOf es) le fits rest = ap (found_as SequenceOf) (arguments_again (expression_at n) n (expression_again n) es (omega arith) fits rest)
expression_again (suc n) (SetOf es) le fits rest = ap (found_as SetOf) (arguments_again (expression_at n) n (expression_again n) es (omega arith) fits rest)
expression_again (suc n) (Range e f) le fits rest =
    two_again (expression_at n) expression_spelling Range e f (expression_again n e (within_left (expression_spelling e) (expression_spelling f) n (omega arith)) fits.0) (expression_again n f (within_right (expression_spelling e) (expression_spelling f) n (omega arith)) fits.1) rest
expression_again (suc n) Booleans le fits rest = refl
expression_again (suc n) (Datatype d) le fits rest = ap (found_as Datatype) (number_again d fits rest)
expression_again (suc n) (Nametype d) le fits rest = ap (found_as Nametype) (number_again d fits rest)
expression_again (suc n) (ConstructorOf k es) le fits rest =
    let within : length (number_spelling k ++ arguments_spelling es) ≤ n = omega arith in
    ap (found_as (λ (y : ℕ × Expressions). ConstructorOf y.0 y.1)) (both_again number_at (expressions_at (expression_at n)) number_spelling arguments_spelling k es (number_again k fits.0)
    (arguments_again (expression_at n) n (expression_again n) es (within_right (number_spelling k) (arguments_spelling es) n within) fits.1) rest)

-- ---- fields, events and sets of events

field_again : (n : ℕ) → ReadsWithin (field_at n) field_spelling IsSpellableField n
unfolding field_at field_behind
field_again n (Given e) le fits rest = ap (found_as Given) (expression_again n e (omega arith) fits rest)
field_again n (Input k) le fits rest = ap (found_as Input) (number_again k fits rest)
field_again n (InputFrom k e) le fits rest =
    let within : length (number_spelling k ++ expression_spelling e) ≤ n = omega arith in
    ap (found_as (λ (y : ℕ × Expression). InputFrom y.0 y.1)) (both_again number_at (expression_at n) number_spelling expression_spelling k e (number_again k fits.0) (expression_again n e (within_right (number_spelling k) (expression_spelling e) n within) fits.1) rest)

event_again : (n : ℕ) → ReadsWithin (event_at n) event_spelling IsSpellableEvent n
unfolding event_at
event_again n e le fits rest =
    ap (found_as event_of_parts) (both_again number_at (expressions_at (expression_at n)) number_spelling arguments_spelling e.channel e.fields (number_again e.channel fits.0)
    (arguments_again (expression_at n) n (expression_again n) e.fields (within_right (number_spelling e.channel) (arguments_spelling e.fields) n le) fits.1) rest)

pair_again : (n : ℕ) → ReadsWithin (pair_at n) pair_spelling IsSpellablePair n
unfolding pair_at
pair_again n r le fits rest =
    ap (found_as pair_of_sides) (both_again (event_at n) (event_at n) event_spelling event_spelling r.from r.to
    (event_again n r.from (within_left (event_spelling r.from) (event_spelling r.to) n le) fits.0) (event_again n r.to (within_right (event_spelling r.from) (event_spelling r.to) n le) fits.1) rest)

some_event_set : (a : EventSet) → 0 < length (event_set_spelling a)
some_event_set (Enumeration es) = omega arith
some_event_set (Productions es) = omega arith
some_event_set (EventUnion a b) = omega arith
some_event_set (EventIntersection a b) = omega arith
some_event_set (EventDifference a b) = omega arith

pub event_set_again : (n : ℕ) → ReadsWithin (event_set_at n) event_set_spelling IsSpellableEventSet n
unfolding event_set_at event_set_behind
event_set_again zero a le fits rest = absurd (omega (arith, some_event_set a))
event_set_again (suc n) (Enumeration es) le fits rest = ap (found_as Enumeration) (listed_again (event_at n) event_spelling IsSpellableEvent n (event_again n) es (omega arith) fits rest)
event_set_again (suc n) (Productions es) le fits rest = ap (found_as Productions) (listed_again (event_at n) event_spelling IsSpellableEvent n (event_again n) es (omega arith) fits rest)
event_set_again (suc n) (EventUnion a b) le fits rest =
    two_again (event_set_at n) event_set_spelling EventUnion a b (event_set_again n a (within_left (event_set_spelling a) (event_set_spelling b) n (omega arith)) fits.0) (event_set_again n b (within_right (event_set_spelling a) (event_set_spelling b) n (omega arith)) fits.1) rest
event_set_again (suc n) (EventIntersection a b) le fits rest =
    two_again (event_set_at n) event_set_spelling EventIntersection a b (event_set_again n a (within_left (event_set_spelling a) (event_set_spelling b) n (omega arith)) fits.0) (event_set_again n b (within_right (event_set_spelling a) (event_set_spelling b) n (omega arith)) fits.1) rest
event_set_again (suc n) (EventDifference a b) le fits rest =
    two_again (event_set_at n) event_set_spelling EventDifference a b (event_set_again n a (within_left (event_set_spelling a) (event_set_spelling b) n (omega arith)) fits.0) (event_set_again n b (within_right (event_set_spelling a) (event_set_spelling b) n (omega arith)) fits.1) rest

-- ---- processes

some_process : (p : Process) → 0 < length (spelling p)
some_process Stop = omega arith
some_process Skip = omega arith
some_process Omega = omega arith
some_process (Call n es) = omega arith
some_process (Prefix c fs p) = omega arith
some_process (Guard e p) = omega arith
some_process (If e p q) = omega arith
some_process (ExternalChoice p q) = omega arith
some_process (InternalChoice p q) = omega arith
some_process (Sequential p q) = omega arith
some_process (Interleaving p q) = omega arith
some_process (Interrupt p q) = omega arith
some_process (GeneralisedParallel p a q) = omega arith
some_process (AlphabetisedParallel p a b q) = omega arith
some_process (Hiding p a) = omega arith
some_process (Renaming p rs) = omega arith
some_process (ReplicatedExternalChoice n e p) = omega arith
some_process (ReplicatedInternalChoice n e p) = omega arith
some_process (ReplicatedInterleaving n e p) = omega arith
some_process (SlidingChoice p q) = omega arith

pub process_again : (n : ℕ) → ReadsWithin (process_at n) spelling IsSpellable n
unfolding process_at process_behind call_at prefix_at guard_at if_at generalised_at alphabetised_at hiding_at renaming_at replicated_at
process_again zero p le fits rest = absurd (omega (arith, some_process p))
process_again (suc n) Stop le fits rest = refl
process_again (suc n) Skip le fits rest = refl
process_again (suc n) Omega le fits rest = refl
process_again (suc n) (Call k es) le fits rest =
    let w1 : length (number_spelling k ++ arguments_spelling es) ≤ n = omega arith in
    let w0 : length (number_spelling k) ≤ n = within_left (number_spelling k) (arguments_spelling es) n w1 in
    ap (found_as (λ (y : ℕ × Expressions). Call y.0 y.1)) (both_again number_at (expressions_at (expression_at n)) number_spelling arguments_spelling k es (number_again k fits.0) (arguments_again (expression_at n) n (expression_again n) es (within_right (number_spelling k) (arguments_spelling es) n w1) fits.1) rest)
process_again (suc n) (Prefix c fs p) le fits rest =
    let w2 : length (number_spelling c ++ (list_spelling field_spelling) fs ++ spelling p) ≤ n = omega arith in
    let w1 : length (number_spelling c ++ (list_spelling field_spelling) fs) ≤ n = within_left (number_spelling c ++ (list_spelling field_spelling) fs) (spelling p) n w2 in
    let w0 : length (number_spelling c) ≤ n = within_left (number_spelling c) ((list_spelling field_spelling) fs) n w1 in
    ap (found_as (λ (y : (ℕ × (List Field)) × Process). Prefix y.0.0 y.0.1 y.1)) (both_again (both number_at (list_at (field_at n))) (process_at n) (λ (y : (ℕ × (List Field))). number_spelling y.0 ++ (list_spelling field_spelling) y.1) spelling (c, fs) p (both_again number_at (list_at (field_at n)) number_spelling (list_spelling field_spelling) c fs (number_again c fits.0) (listed_again (field_at n) field_spelling IsSpellableField n (field_again n) fs (within_right (number_spelling c) ((list_spelling field_spelling) fs) n w1) fits.1)) (process_again n p (within_right (number_spelling c ++ (list_spelling field_spelling) fs) (spelling p) n w2) fits.2) rest)
process_again (suc n) (Guard e p) le fits rest =
    let w1 : length (expression_spelling e ++ spelling p) ≤ n = omega arith in
    let w0 : length (expression_spelling e) ≤ n = within_left (expression_spelling e) (spelling p) n w1 in
    ap (found_as (λ (y : Expression × Process). Guard y.0 y.1)) (both_again (expression_at n) (process_at n) expression_spelling spelling e p (expression_again n e w0 fits.0) (process_again n p (within_right (expression_spelling e) (spelling p) n w1) fits.1) rest)
process_again (suc n) (If e p q) le fits rest =
    let w2 : length (expression_spelling e ++ spelling p ++ spelling q) ≤ n = omega arith in
    let w1 : length (expression_spelling e ++ spelling p) ≤ n = within_left (expression_spelling e ++ spelling p) (spelling q) n w2 in
    let w0 : length (expression_spelling e) ≤ n = within_left (expression_spelling e) (spelling p) n w1 in
    ap (found_as (λ (y : (Expression × Process) × Process). If y.0.0 y.0.1 y.1)) (both_again (both (expression_at n) (process_at n)) (process_at n) (λ (y : (Expression × Process)). expression_spelling y.0 ++ spelling y.1) spelling (e, p) q (both_again (expression_at n) (process_at n) expression_spelling spelling e p (expression_again n e w0 fits.0) (process_again n p (within_right (expression_spelling e) (spelling p) n w1) fits.1)) (process_again n q (within_right (expression_spelling e ++ spelling p) (spelling q) n w2) fits.2) rest)
process_again (suc n) (GeneralisedParallel p a q) le fits rest =
    let w2 : length (spelling p ++ event_set_spelling a ++ spelling q) ≤ n = omega arith in
    let w1 : length (spelling p ++ event_set_spelling a) ≤ n = within_left (spelling p ++ event_set_spelling a) (spelling q) n w2 in
    let w0 : length (spelling p) ≤ n = within_left (spelling p) (event_set_spelling a) n w1 in
    ap (found_as (λ (y : (Process × EventSet) × Process). GeneralisedParallel y.0.0 y.0.1 y.1)) (both_again (both (process_at n) (event_set_at n)) (process_at n) (λ (y : (Process × EventSet)). spelling y.0 ++ event_set_spelling y.1) spelling (p, a) q (both_again (process_at n) (event_set_at n) spelling event_set_spelling p a (process_again n p w0 fits.0) (event_set_again n a (within_right (spelling p) (event_set_spelling a) n w1) fits.1)) (process_again n q (within_right (spelling p ++ event_set_spelling a) (spelling q) n w2) fits.2) rest)
process_again (suc n) (AlphabetisedParallel p a b q) le fits rest =
    let w3 : length (spelling p ++ event_set_spelling a ++ event_set_spelling b ++ spelling q) ≤ n = omega arith in
    let w2 : length (spelling p ++ event_set_spelling a ++ event_set_spelling b) ≤ n = within_left (spelling p ++ event_set_spelling a ++ event_set_spelling b) (spelling q) n w3 in
    let w1 : length (spelling p ++ event_set_spelling a) ≤ n = within_left (spelling p ++ event_set_spelling a) (event_set_spelling b) n w2 in
    let w0 : length (spelling p) ≤ n = within_left (spelling p) (event_set_spelling a) n w1 in
    ap (found_as (λ (y : ((Process × EventSet) × EventSet) × Process). AlphabetisedParallel y.0.0.0 y.0.0.1 y.0.1 y.1)) (both_again (both (both (process_at n) (event_set_at n)) (event_set_at n)) (process_at n) (λ (y : ((Process × EventSet) × EventSet)). spelling y.0.0 ++ event_set_spelling y.0.1 ++ event_set_spelling y.1) spelling ((p, a), b) q (both_again (both (process_at n) (event_set_at n)) (event_set_at n) (λ (y : (Process × EventSet)). spelling y.0 ++ event_set_spelling y.1) event_set_spelling (p, a) b (both_again (process_at n) (event_set_at n) spelling event_set_spelling p a (process_again n p w0 fits.0) (event_set_again n a (within_right (spelling p) (event_set_spelling a) n w1) fits.1)) (event_set_again n b (within_right (spelling p ++ event_set_spelling a) (event_set_spelling b) n w2) fits.2)) (process_again n q (within_right (spelling p ++ event_set_spelling a ++ event_set_spelling b) (spelling q) n w3) fits.3) rest)
process_again (suc n) (Hiding p a) le fits rest =
    let w1 : length (spelling p ++ event_set_spelling a) ≤ n = omega arith in
    let w0 : length (spelling p) ≤ n = within_left (spelling p) (event_set_spelling a) n w1 in
    ap (found_as (λ (y : Process × EventSet). Hiding y.0 y.1)) (both_again (process_at n) (event_set_at n) spelling event_set_spelling p a (process_again n p w0 fits.0) (event_set_again n a (within_right (spelling p) (event_set_spelling a) n w1) fits.1) rest)
process_again (suc n) (Renaming p rs) le fits rest =
    let w1 : length (spelling p ++ (list_spelling pair_spelling) rs) ≤ n = omega arith in
    let w0 : length (spelling p) ≤ n = within_left (spelling p) ((list_spelling pair_spelling) rs) n w1 in
    ap (found_as (λ (y : Process × (List RenamingPair)). Renaming y.0 y.1)) (both_again (process_at n) (list_at (pair_at n)) spelling (list_spelling pair_spelling) p rs (process_again n p w0 fits.0) (listed_again (pair_at n) pair_spelling IsSpellablePair n (pair_again n) rs (within_right (spelling p) ((list_spelling pair_spelling) rs) n w1) fits.1) rest)
process_again (suc n) (ReplicatedExternalChoice k e p) le fits rest =
    let w2 : length (number_spelling k ++ expression_spelling e ++ spelling p) ≤ n = omega arith in
    let w1 : length (number_spelling k ++ expression_spelling e) ≤ n = within_left (number_spelling k ++ expression_spelling e) (spelling p) n w2 in
    let w0 : length (number_spelling k) ≤ n = within_left (number_spelling k) (expression_spelling e) n w1 in
    ap (found_as (λ (y : (ℕ × Expression) × Process). ReplicatedExternalChoice y.0.0 y.0.1 y.1)) (both_again (both number_at (expression_at n)) (process_at n) (λ (y : (ℕ × Expression)). number_spelling y.0 ++ expression_spelling y.1) spelling (k, e) p (both_again number_at (expression_at n) number_spelling expression_spelling k e (number_again k fits.0) (expression_again n e (within_right (number_spelling k) (expression_spelling e) n w1) fits.1)) (process_again n p (within_right (number_spelling k ++ expression_spelling e) (spelling p) n w2) fits.2) rest)
process_again (suc n) (ReplicatedInternalChoice k e p) le fits rest =
    let w2 : length (number_spelling k ++ expression_spelling e ++ spelling p) ≤ n = omega arith in
    let w1 : length (number_spelling k ++ expression_spelling e) ≤ n = within_left (number_spelling k ++ expression_spelling e) (spelling p) n w2 in
    let w0 : length (number_spelling k) ≤ n = within_left (number_spelling k) (expression_spelling e) n w1 in
    ap (found_as (λ (y : (ℕ × Expression) × Process). ReplicatedInternalChoice y.0.0 y.0.1 y.1)) (both_again (both number_at (expression_at n)) (process_at n) (λ (y : (ℕ × Expression)). number_spelling y.0 ++ expression_spelling y.1) spelling (k, e) p (both_again number_at (expression_at n) number_spelling expression_spelling k e (number_again k fits.0) (expression_again n e (within_right (number_spelling k) (expression_spelling e) n w1) fits.1)) (process_again n p (within_right (number_spelling k ++ expression_spelling e) (spelling p) n w2) fits.2) rest)
process_again (suc n) (ReplicatedInterleaving k e p) le fits rest =
    let w2 : length (number_spelling k ++ expression_spelling e ++ spelling p) ≤ n = omega arith in
    let w1 : length (number_spelling k ++ expression_spelling e) ≤ n = within_left (number_spelling k ++ expression_spelling e) (spelling p) n w2 in
    let w0 : length (number_spelling k) ≤ n = within_left (number_spelling k) (expression_spelling e) n w1 in
    ap (found_as (λ (y : (ℕ × Expression) × Process). ReplicatedInterleaving y.0.0 y.0.1 y.1)) (both_again (both number_at (expression_at n)) (process_at n) (λ (y : (ℕ × Expression)). number_spelling y.0 ++ expression_spelling y.1) spelling (k, e) p (both_again number_at (expression_at n) number_spelling expression_spelling k e (number_again k fits.0) (expression_again n e (within_right (number_spelling k) (expression_spelling e) n w1) fits.1)) (process_again n p (within_right (number_spelling k ++ expression_spelling e) (spelling p) n w2) fits.2) rest)
process_again (suc n) (ExternalChoice p q) le fits rest =
    two_again (process_at n) spelling ExternalChoice p q (process_again n p (within_left (spelling p) (spelling q) n (omega arith)) fits.0) (process_again n q (within_right (spelling p) (spelling q) n (omega arith)) fits.1) rest
process_again (suc n) (InternalChoice p q) le fits rest =
    two_again (process_at n) spelling InternalChoice p q (process_again n p (within_left (spelling p) (spelling q) n (omega arith)) fits.0) (process_again n q (within_right (spelling p) (spelling q) n (omega arith)) fits.1) rest
process_again (suc n) (Sequential p q) le fits rest =
    two_again (process_at n) spelling Sequential p q (process_again n p (within_left (spelling p) (spelling q) n (omega arith)) fits.0) (process_again n q (within_right (spelling p) (spelling q) n (omega arith)) fits.1) rest
process_again (suc n) (Interleaving p q) le fits rest =
    two_again (process_at n) spelling Interleaving p q (process_again n p (within_left (spelling p) (spelling q) n (omega arith)) fits.0) (process_again n q (within_right (spelling p) (spelling q) n (omega arith)) fits.1) rest
process_again (suc n) (Interrupt p q) le fits rest =
    two_again (process_at n) spelling Interrupt p q (process_again n p (within_left (spelling p) (spelling q) n (omega arith)) fits.0) (process_again n q (within_right (spelling p) (spelling q) n (omega arith)) fits.1) rest
process_again (suc n) (SlidingChoice p q) le fits rest =
    two_again (process_at n) spelling SlidingChoice p q (process_again n p (within_left (spelling p) (spelling q) n (omega arith)) fits.0) (process_again n q (within_right (spelling p) (spelling q) n (omega arith)) fits.1) rest
