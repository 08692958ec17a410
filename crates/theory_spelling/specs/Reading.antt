-- Reading a term back from the front of bytes: what is spelled there, with the bytes behind it, or none. The number that
-- comes first bounds how deep what is read may nest; no term nests deeper than its spelling is long.
use Rattle.std.specs.Prelude.{◌<◌, get_or, ℕ, zero, suc, ℤ, Bool, true, false, List, [], ◌∷◌, length, take, drop, Option, Some, None, nat_lt, ◌==◌, if◌then◌else◌}
use Rattle.std.specs.Int.{w32, cast_signed, from_le_bytes}
use Rattle.theory_syntax.specs.Value.{Value, Integer, Truth, Constructor, Sequence, Set, Values, no_values, to_values}
use Rattle.theory_syntax.specs.Expression.{Unary, Negate, Not, Length, Head, Tail, IsNull, Card, Binary, Add, Subtract, Multiply, Modulus, Concatenate, Equals, Differs, LessThan, AtMost, GreaterThan, AtLeast, And, Or, IsElement, IsMember, Union, Intersection, Difference, Expression, Literal, Name, Apply, Combine, SequenceOf, SetOf, Range, Booleans, Datatype, Nametype, ConstructorOf, Expressions, to_expressions}
use Rattle.theory_syntax.specs.Process.{Field, Given, Input, InputFrom, EventExpression, EventSet, Enumeration, Productions, EventUnion, EventIntersection, EventDifference, RenamingPair, Process, Stop, Skip, Omega, Call, Prefix, Guard, If, ExternalChoice, InternalChoice, Sequential, Interleaving, Interrupt, GeneralisedParallel, AlphabetisedParallel, Hiding, Renaming, ReplicatedExternalChoice, ReplicatedInternalChoice, ReplicatedInterleaving, SlidingChoice}
use Rattle.theory_semantics.specs.Meaning.Offers.{rises}
use Rattle.theory_spelling.specs.Spelling.{unary_tag, binary_tag}

-- each number of the list is a byte
abbrev pub IsBytes : List ℕ → Type 0
IsBytes bytes = (i : ℕ) → get_or bytes i 0 < 256

-- what was read, and the bytes behind it
abbrev pub Found : Type 0 → Type 0
Found X = Option (X × List ℕ)

infixl 10 ◌>>=◌
abbrev pub ◌>>=◌ : {A B : Type 0} → Option A → (A → Option B) → Option B
(Some x) >>= f = f x
None >>= f = None

-- what was read, made into another thing
abbrev pub found_as : {X Y : Type 0} → (X → Y) → Found X → Found Y
found_as f (Some x) = Some (f x.0, x.1)
found_as f None = None

-- one thing, and then another behind it
abbrev pub both : {X Y : Type 0} → (List ℕ → Found X) → (List ℕ → Found Y) → List ℕ → Found (X × Y)
both read other bytes = read bytes >>= λ x. other x.1 >>= λ y. Some ((x.0, y.0), y.1)

abbrev pub byte_at : List ℕ → Found ℕ
byte_at [] = None
byte_at (b ∷ bytes) = Some (b, bytes)

unfoldable pub number_at : List ℕ → Found ℕ
number_at bytes = if nat_lt (length bytes) 4 then None else Some (from_le_bytes w32 (take 4 bytes), drop 4 bytes)

unfoldable pub whole_at : List ℕ → Found ℤ
whole_at bytes = found_as (cast_signed w32) (number_at bytes)

unfoldable pub truth_at : List ℕ → Found Bool
truth_at [] = None
truth_at (zero ∷ bytes) = Some (false, bytes)
truth_at (suc zero ∷ bytes) = Some (true, bytes)
truth_at (suc (suc b) ∷ bytes) = None

-- so many items, one after the other
unfoldable pub items_at : {X : Type 0} → (List ℕ → Found X) → ℕ → List ℕ → Found (List X)
items_at read zero bytes = Some ([], bytes)
items_at read (suc n) bytes = found_as (λ x. x.0 ∷ x.1) (both read (items_at read n) bytes)

-- a list: its length, then its items
unfoldable pub list_at : {X : Type 0} → (List ℕ → Found X) → List ℕ → Found (List X)
list_at read bytes = number_at bytes >>= λ n. items_at read n.0 n.1

unfoldable pub values_at : (List ℕ → Found Value) → List ℕ → Found Values
values_at read bytes = found_as to_values (list_at read bytes)

-- the members of a set, if they rise
abbrev pub if_rising : List Value × List ℕ → Found Values
if_rising x = if rises x.0 then Some (to_values x.0, x.1) else None

unfoldable pub members_at : (List ℕ → Found Value) → List ℕ → Found Values
members_at read bytes = list_at read bytes >>= if_rising

-- a constructor with fields, if there are some
abbrev pub with_some_fields : ℕ → List Value → List ℕ → Found Value
with_some_fields k [] bytes = None
with_some_fields k (v ∷ vs) bytes = Some (Constructor k (to_values (v ∷ vs)), bytes)

unfoldable pub constructor_at : (List ℕ → Found Value) → List ℕ → Found Value
constructor_at read bytes = both number_at (list_at read) bytes >>= λ x. with_some_fields x.0.0 x.0.1 x.1

-- the value behind its tag
unfoldable pub value_behind : (List ℕ → Found Value) → ℕ → List ℕ → Found Value
value_behind read tag bytes =
    if tag == 0x60 then found_as Integer (whole_at bytes)
    else if tag == 0x61 then found_as Truth (truth_at bytes)
    else if tag == 0x62 then found_as (λ k. Constructor k no_values) (number_at bytes)
    else if tag == 0x63 then found_as Sequence (values_at read bytes)
    else if tag == 0x64 then found_as Set (members_at read bytes)
    else if tag == 0x65 then constructor_at read bytes
    else None

unfoldable pub value_at : ℕ → List ℕ → Found Value
value_at zero bytes = None
value_at (suc n) bytes = byte_at bytes >>= λ tag. value_behind (value_at n) tag.0 tag.1

-- the first of the operators that has the tag
abbrev pub tagged : {O : Type 0} → (O → ℕ) → List O → ℕ → Option O
tagged tag_of [] tag = None
tagged tag_of (op ∷ ops) tag = if tag == tag_of op then Some op else tagged tag_of ops tag

abbrev pub unary_operators : List Unary
unary_operators = Negate ∷ Not ∷ Length ∷ Head ∷ Tail ∷ IsNull ∷ Card ∷ []

abbrev pub binary_operators : List Binary
binary_operators = Add ∷ Subtract ∷ Multiply ∷ Modulus ∷ Concatenate ∷ Equals ∷ Differs ∷ LessThan ∷ AtMost ∷ GreaterThan ∷ AtLeast ∷ And ∷ Or ∷ IsElement ∷ IsMember ∷ Union ∷ Intersection ∷ Difference ∷ []

unfoldable pub unary_tagged : ℕ → Option Unary
unary_tagged tag = tagged unary_tag unary_operators tag

unfoldable pub binary_tagged : ℕ → Option Binary
binary_tagged tag = tagged binary_tag binary_operators tag

-- two of a kind, made into one
unfoldable pub two_at : {X : Type 0} → (List ℕ → Found X) → (X → X → X) → List ℕ → Found X
two_at read made bytes = found_as (λ x. made x.0 x.1) (both read read bytes)

-- an operator's operands
abbrev pub operation_at : (List ℕ → Found Expression) → Option Unary → Option Binary → List ℕ → Found Expression
operation_at read (Some op) other bytes = found_as (Apply op) (read bytes)
operation_at read None (Some op) bytes = two_at read (Combine op) bytes
operation_at read None None bytes = None

unfoldable pub expressions_at : (List ℕ → Found Expression) → List ℕ → Found Expressions
expressions_at read bytes = found_as to_expressions (list_at read bytes)

-- the expression behind its tag
unfoldable pub expression_behind : (List ℕ → Found Value) → (List ℕ → Found Expression) → ℕ → List ℕ → Found Expression
expression_behind read_value read tag bytes =
    if tag == 0x30 then found_as Literal (read_value bytes)
    else if tag == 0x31 then found_as Name (number_at bytes)
    else if tag == 0x4b then found_as SequenceOf (expressions_at read bytes)
    else if tag == 0x4c then found_as SetOf (expressions_at read bytes)
    else if tag == 0x4d then two_at read Range bytes
    else if tag == 0x4e then Some (Booleans, bytes)
    else if tag == 0x4f then found_as Datatype (number_at bytes)
    else if tag == 0x50 then found_as Nametype (number_at bytes)
    else if tag == 0x51 then found_as (λ x. ConstructorOf x.0 x.1) (both number_at (expressions_at read) bytes)
    else operation_at read (unary_tagged tag) (binary_tagged tag) bytes

unfoldable pub expression_at : ℕ → List ℕ → Found Expression
expression_at zero bytes = None
expression_at (suc n) bytes = byte_at bytes >>= λ tag. expression_behind (value_at n) (expression_at n) tag.0 tag.1

-- the field behind its tag
unfoldable pub field_behind : ℕ → ℕ → List ℕ → Found Field
field_behind depth tag bytes =
    if tag == 0x20 then found_as Given (expression_at depth bytes)
    else if tag == 0x21 then found_as Input (number_at bytes)
    else if tag == 0x22 then found_as (λ x. InputFrom x.0 x.1) (both number_at (expression_at depth) bytes)
    else None

unfoldable pub field_at : ℕ → List ℕ → Found Field
field_at depth bytes = byte_at bytes >>= λ tag. field_behind depth tag.0 tag.1

abbrev pub event_of_parts : ℕ × Expressions → EventExpression
event_of_parts x = record { channel = x.0; fields = x.1 }

unfoldable pub event_at : ℕ → List ℕ → Found EventExpression
event_at depth bytes = found_as event_of_parts (both number_at (expressions_at (expression_at depth)) bytes)

abbrev pub pair_of_sides : EventExpression × EventExpression → RenamingPair
pair_of_sides x = record { from = x.0; to = x.1 }

unfoldable pub pair_at : ℕ → List ℕ → Found RenamingPair
pair_at depth bytes = found_as pair_of_sides (both (event_at depth) (event_at depth) bytes)

-- the set of events behind its tag
unfoldable pub event_set_behind : ℕ → (List ℕ → Found EventSet) → ℕ → List ℕ → Found EventSet
event_set_behind depth read tag bytes =
    if tag == 0x28 then found_as Enumeration (list_at (event_at depth) bytes)
    else if tag == 0x29 then found_as Productions (list_at (event_at depth) bytes)
    else if tag == 0x2a then two_at read EventUnion bytes
    else if tag == 0x2b then two_at read EventIntersection bytes
    else if tag == 0x2c then two_at read EventDifference bytes
    else None

unfoldable pub event_set_at : ℕ → List ℕ → Found EventSet
event_set_at zero bytes = None
event_set_at (suc n) bytes = byte_at bytes >>= λ tag. event_set_behind n (event_set_at n) tag.0 tag.1

unfoldable pub call_at : ℕ → List ℕ → Found Process
call_at depth bytes = found_as (λ x. Call x.0 x.1) (both number_at (expressions_at (expression_at depth)) bytes)

unfoldable pub prefix_at : ℕ → (List ℕ → Found Process) → List ℕ → Found Process
prefix_at depth read bytes = found_as (λ x. Prefix x.0.0 x.0.1 x.1) (both (both number_at (list_at (field_at depth))) read bytes)

unfoldable pub guard_at : ℕ → (List ℕ → Found Process) → List ℕ → Found Process
guard_at depth read bytes = found_as (λ x. Guard x.0 x.1) (both (expression_at depth) read bytes)

unfoldable pub if_at : ℕ → (List ℕ → Found Process) → List ℕ → Found Process
if_at depth read bytes = found_as (λ x. If x.0.0 x.0.1 x.1) (both (both (expression_at depth) read) read bytes)

unfoldable pub generalised_at : ℕ → (List ℕ → Found Process) → List ℕ → Found Process
generalised_at depth read bytes = found_as (λ x. GeneralisedParallel x.0.0 x.0.1 x.1) (both (both read (event_set_at depth)) read bytes)

unfoldable pub alphabetised_at : ℕ → (List ℕ → Found Process) → List ℕ → Found Process
alphabetised_at depth read bytes = found_as (λ x. AlphabetisedParallel x.0.0.0 x.0.0.1 x.0.1 x.1) (both (both (both read (event_set_at depth)) (event_set_at depth)) read bytes)

unfoldable pub hiding_at : ℕ → (List ℕ → Found Process) → List ℕ → Found Process
hiding_at depth read bytes = found_as (λ x. Hiding x.0 x.1) (both read (event_set_at depth) bytes)

unfoldable pub renaming_at : ℕ → (List ℕ → Found Process) → List ℕ → Found Process
renaming_at depth read bytes = found_as (λ x. Renaming x.0 x.1) (both read (list_at (pair_at depth)) bytes)

unfoldable pub replicated_at : ℕ → (List ℕ → Found Process) → (ℕ → Expression → Process → Process) → List ℕ → Found Process
replicated_at depth read made bytes = found_as (λ x. made x.0.0 x.0.1 x.1) (both (both number_at (expression_at depth)) read bytes)

-- the process behind its tag
unfoldable pub process_behind : ℕ → (List ℕ → Found Process) → ℕ → List ℕ → Found Process
process_behind depth read tag bytes =
    if tag == 0x01 then Some (Stop, bytes)
    else if tag == 0x02 then Some (Skip, bytes)
    else if tag == 0x03 then Some (Omega, bytes)
    else if tag == 0x04 then call_at depth bytes
    else if tag == 0x05 then prefix_at depth read bytes
    else if tag == 0x06 then guard_at depth read bytes
    else if tag == 0x07 then if_at depth read bytes
    else if tag == 0x08 then two_at read ExternalChoice bytes
    else if tag == 0x09 then two_at read InternalChoice bytes
    else if tag == 0x0a then two_at read Sequential bytes
    else if tag == 0x0b then two_at read Interleaving bytes
    else if tag == 0x0c then two_at read Interrupt bytes
    else if tag == 0x0d then generalised_at depth read bytes
    else if tag == 0x0e then alphabetised_at depth read bytes
    else if tag == 0x0f then hiding_at depth read bytes
    else if tag == 0x10 then renaming_at depth read bytes
    else if tag == 0x11 then replicated_at depth read ReplicatedExternalChoice bytes
    else if tag == 0x12 then replicated_at depth read ReplicatedInternalChoice bytes
    else if tag == 0x13 then replicated_at depth read ReplicatedInterleaving bytes
    else if tag == 0x14 then two_at read SlidingChoice bytes
    else None

unfoldable pub process_at : ℕ → List ℕ → Found Process
process_at zero bytes = None
process_at (suc n) bytes = byte_at bytes >>= λ tag. process_behind n (process_at n) tag.0 tag.1

-- the term of which all of the bytes are the spelling, if there is one
abbrev pub whole_term : Found Process → Option Process
whole_term (Some (p, [])) = Some p
whole_term (Some (p, b ∷ bytes)) = None
whole_term None = None

unfoldable pub term_of : List ℕ → Option Process
term_of bytes = whole_term (process_at (length bytes) bytes)
