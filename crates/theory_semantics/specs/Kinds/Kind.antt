-- Kinds, and the kinds of the names and parts of a script.
use Rattle.std.specs.Prelude.{ℕ, nat_eq, cond, List, [], ◌∷◌, Option, Some, None, ⊤}

-- Whole numbers, truth values, a datatype by its number, sequences of a kind, and sets of a kind.
-- There are no pairs: a kind is a row of `sequence of` and `set of` that ends in one of the first three.
pub data Kind : Type 0 where
  IntKind : Kind
  BoolKind : Kind
  DatatypeKind : (datatype : ℕ) → Kind
  SequenceKind : (item : Kind) → Kind
  SetKind : (member : Kind) → Kind

-- The kinds of the members of each nametype, of the fields of each constructor and of each channel, and of the parameters
-- of each equation, each in the order of the script's own lists.
pub record Kinds : Type 0 where
  pub nametypes : List Kind
  pub constructors : List (List Kind)
  pub channels : List (List Kind)
  pub parameters : List (List Kind)

-- The bound names that can be used at a place, with their kinds. The inner ones come first, and hide outer ones of the same name.
abbrev pub Scope : Type 0
Scope = List (ℕ × Kind)

-- the kind of a bound name, if there is such a name
abbrev pub kind_of_name : Scope → ℕ → Option Kind
kind_of_name [] n = None
kind_of_name (b ∷ bs) n = cond (nat_eq b.0 n) (Some b.1) (kind_of_name bs n)

-- names with kinds in turn
abbrev pub scope_of : List ℕ → List Kind → Scope
scope_of [] ks = []
scope_of (n ∷ ns) [] = []
scope_of (n ∷ ns) (k ∷ ks) = (n, k) ∷ scope_of ns ks

-- Two lists are of one length, and P relates their members in turn.
abbrev pub InTurn : {A B : Type 0} → (A → B → Type 0) → List A → List B → Type 0
InTurn P [] [] = ⊤
InTurn P (x ∷ xs) (y ∷ ys) = P x y × InTurn P xs ys
InTurn P xs ys = ⊥

-- The first list is no longer, and P relates its members to the first ones of the second in turn.
abbrev pub BeginsInTurn : {A B : Type 0} → (A → B → Type 0) → List A → List B → Type 0
BeginsInTurn P [] ys = ⊤
BeginsInTurn P (x ∷ xs) (y ∷ ys) = P x y × BeginsInTurn P xs ys
BeginsInTurn P (x ∷ xs) [] = ⊥

-- P holds of each member.
abbrev pub Each : {A : Type 0} → (A → Type 0) → List A → Type 0
Each P [] = ⊤
Each P (x ∷ xs) = P x × Each P xs
