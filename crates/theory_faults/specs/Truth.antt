-- What is true of what is to blame.
use Rattle.std.specs.Prelude.{◌≡◌, ℕ, zero, suc, false, List, [], ◌∷◌, slice_get, Option, Some, None, Ok, Err, ⊤}
use Rattle.theory_syntax.specs.Value.{Value, has_value}
use Rattle.theory_syntax.specs.Expression.{Expression, Apply, Combine, SequenceOf, SetOf, Range, ConstructorOf, expressions_list}
use Rattle.theory_syntax.specs.Process.{Script}
use Rattle.theory_syntax.specs.Types.{Types}
use Rattle.theory_semantics.specs.Kinds.Kind.{Each}
use Rattle.theory_semantics.specs.Meaning.Evaluation.{Cause, EmptyChoice, IllKinded, OutOfRange, value}
use Rattle.theory_semantics.specs.Meaning.Events.{elements}
use Rattle.theory_faults.specs.Culprit.{Culprit, Misfit, NoChoice, OfChannel, OfConstructor, Outside, Owner, Valueless}

-- the sets of the owner's fields
abbrev pub sets_of : Script → Owner → Option (List (List Value))
sets_of script (OfChannel c) = slice_get script.channels c
sets_of script (OfConstructor k) = slice_get script.types.constructors k

-- the value lies outside of the set of the field with this number, where fields are counted from 1
abbrev pub IsOutside : Script → Owner → ℕ → Value → Type 0
IsOutside script owner zero v = ⊥
IsOutside script owner (suc i) v =
    (sets : List (List Value)) × (set : List Value) × (sets_of script owner ≡ Some sets) × (slice_get sets i ≡ Some set) × (has_value set v ≡ false)

-- the parts of an expression that have to have values first
abbrev pub operands : Expression → List Expression
operands (Apply op e) = e ∷ []
operands (Combine op e f) = e ∷ f ∷ []
operands (SequenceOf es) = expressions_list es
operands (SetOf es) = expressions_list es
operands (Range e f) = e ∷ f ∷ []
operands (ConstructorOf k es) = expressions_list es
operands e = []

abbrev pub HasValue : Types → Expression → Type 0
HasValue types e = (v : Value) × (value types e ≡ Ok v)

-- Why a rule has no value by this cause: an expression has none though its operands have one, a value lies outside, or there
-- is nothing to choose.
abbrev pub Explains : Script → Cause → Culprit → Type 0
Explains script c (Valueless e d) = (d ≡ c) × (value script.types e ≡ Err c) × Each (HasValue script.types) (operands e)
Explains script c (Outside owner i v) = (c ≡ OutOfRange) × IsOutside script owner i v
Explains script c (NoChoice n e) = (c ≡ EmptyChoice) × (elements script.types e ≡ Ok [])
Explains script c Misfit = c ≡ IllKinded

-- what is to blame for the cause explains it, and without a cause nothing is to blame
abbrev pub IsToBlame : Script → Option Culprit → Option Cause → Type 0
IsToBlame script (Some k) (Some c) = Explains script c k
IsToBlame script (Some k) None = ⊥
IsToBlame script None (Some c) = ⊥
IsToBlame script None None = ⊤
