-- Kinds with open ends.
use Rattle.std.specs.Prelude.{◌≡◌, ℕ, ◌<◌, nat_eq, cond, Option, Some, None}
use Rattle.theory_semantics.specs.Kinds.Kind.{Kind, IntKind, BoolKind, DatatypeKind, SequenceKind, SetKind}

-- A row of `sequence of` and `set of` that ends in whole numbers, in truth values, in a datatype, or in a kind that is not known yet and has a number.
pub data Chain : Type 0 where
  IntEnd : Chain
  BoolEnd : Chain
  DatatypeEnd : (datatype : ℕ) → Chain
  OpenEnd : (number : ℕ) → Chain
  SequenceOver : (item : Chain) → Chain
  SetOver : (member : Chain) → Chain

-- a kind for each number
abbrev pub Assignment : Type 0
Assignment = ℕ → Kind

-- the kind of a chain, where each open end has the kind of its number
abbrev pub kind_of : Assignment → Chain → Kind
kind_of a IntEnd = IntKind
kind_of a BoolEnd = BoolKind
kind_of a (DatatypeEnd d) = DatatypeKind d
kind_of a (OpenEnd n) = a n
kind_of a (SequenceOver c) = SequenceKind (kind_of a c)
kind_of a (SetOver c) = SetKind (kind_of a c)

-- the number at the open end of a chain, if it has one
abbrev pub open_end : Chain → Option ℕ
open_end IntEnd = None
open_end BoolEnd = None
open_end (DatatypeEnd d) = None
open_end (OpenEnd n) = Some n
open_end (SequenceOver c) = open_end c
open_end (SetOver c) = open_end c

-- the chain with another one for each open end
abbrev pub with_ends : (ℕ → Chain) → Chain → Chain
with_ends f IntEnd = IntEnd
with_ends f BoolEnd = BoolEnd
with_ends f (DatatypeEnd d) = DatatypeEnd d
with_ends f (OpenEnd n) = f n
with_ends f (SequenceOver c) = SequenceOver (with_ends f c)
with_ends f (SetOver c) = SetOver (with_ends f c)

-- the chain for the number, and the open end for each other number
abbrev pub in_place_of : ℕ → Chain → ℕ → Chain
in_place_of n c m = cond (nat_eq n m) c (OpenEnd m)

-- the assignment with another kind for one number
abbrev pub assign : ℕ → Kind → Assignment → Assignment
assign n k a m = cond (nat_eq n m) k (a m)

-- The assignments give the same kinds to the numbers below n.
abbrev pub AgreeBelow : ℕ → Assignment → Assignment → Type 0
AgreeBelow n a b = (m : ℕ) → m < n → b m ≡ a m
