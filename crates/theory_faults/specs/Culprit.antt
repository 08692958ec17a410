-- What is to blame where a rule lacks a value.
use Rattle.std.specs.Prelude.{ℕ, List, [], ◌∷◌, Option, Some, None, Result, Ok, Err}
use Rattle.std.specs.Option.{option_or}
use Rattle.theory_syntax.specs.Value.{Value}
use Rattle.theory_syntax.specs.Expression.{Expression}
use Rattle.theory_semantics.specs.Meaning.Evaluation.{Cause, OutOfRange, EmptyChoice, IllKinded}

-- what a field is one of
pub data Owner : Type 0 where
  OfChannel : (channel : ℕ) → Owner
  OfConstructor : (constructor : ℕ) → Owner

-- An expression that has no value, though its operands have one. A value outside of the set of its field, where fields are
-- counted from 1. An internal choice over an empty set. Or a part of the wrong kind, which a closed term of the right kinds
-- never has.
pub data Culprit : Type 0 where
  Valueless : (expression : Expression) (cause : Cause) → Culprit
  Outside : (owner : Owner) (field : ℕ) (value : Value) → Culprit
  NoChoice : (name : ℕ) (set : Expression) → Culprit
  Misfit : Culprit

-- the cause that it is
abbrev pub cause_of : Culprit → Cause
cause_of (Valueless e c) = c
cause_of (Outside owner i v) = OutOfRange
cause_of (NoChoice n e) = EmptyChoice
cause_of Misfit = IllKinded

-- the first that is found in a list
abbrev pub first_found : {A B : Type 0} → (A → Option B) → List A → Option B
first_found look [] = None
first_found look (x ∷ xs) = option_or (look x) (first_found look xs)

-- what has no other cause than a wrong kind
abbrev pub misfit : {A : Type 0} → Result A Cause → Option Culprit
misfit (Ok x) = None
misfit (Err c) = Some Misfit

-- what is found over the sets of the fields, where there are such
abbrev pub over_sets : Result (List (List Value)) Cause → (List (List Value) → Option Culprit) → Option Culprit
over_sets (Ok sets) look = look sets
over_sets (Err c) look = Some Misfit
