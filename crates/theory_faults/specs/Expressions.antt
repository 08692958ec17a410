-- What in an expression is to blame that it has no value.
use Rattle.std.specs.Prelude.{ℕ, suc, cond, List, [], ◌∷◌, Option, Some, None, Result, Ok, Err}
use Rattle.std.specs.Option.{option_or}
use Rattle.theory_syntax.specs.Value.{Value, has_value}
use Rattle.theory_syntax.specs.Expression.{Expression, Literal, Apply, Combine, SequenceOf, SetOf, Range, ConstructorOf, Expressions, no_expressions, expression_and}
use Rattle.theory_syntax.specs.Types.{Types}
use Rattle.theory_semantics.specs.Meaning.Evaluation.{Cause, constructor_sets, value}
use Rattle.theory_semantics.specs.Meaning.Events.{condition, elements}
use Rattle.theory_faults.specs.Culprit.{Culprit, Misfit, Outside, Owner, OfConstructor, Valueless, misfit, over_sets}

-- an operand as its value, where it has one
abbrev pub as_value : Types → Expression → Expression
as_value types e = elim (value types e) [ Ok v ↦ Literal v | Err c ↦ e ]

-- the expression with the values of its operands. The items of a sequence and of a set stay as they are written.
abbrev pub with_values : Types → Expression → Expression
with_values types (Apply op e) = Apply op (as_value types e)
with_values types (Combine op e f) = Combine op (as_value types e) (as_value types f)
with_values types (Range e f) = Range (as_value types e) (as_value types f)
with_values types e = e

-- In an expression that has a value nothing is to blame. Else it is what was found in its operands, or the expression itself.
abbrev pub or_itself : Types → Expression → Option Culprit → Option Culprit
or_itself types e found = elim (value types e) [ Ok v ↦ None | Err c ↦ option_or found (Some (Valueless (with_values types e) c)) ]

-- the value of a field, where it lies outside of its set; before the field stand this many
abbrev pub outside : Owner → ℕ → List Value → Result Value Cause → Option Culprit
outside owner i set (Ok v) = cond (has_value set v) None (Some (Outside owner (suc i) v))
outside owner i set (Err c) = None

-- what is to blame in an expression: the first of its operands without a value that has no such operand itself
abbrev mutual
  pub culprit : Types → Expression → Option Culprit
  culprit types (Apply op e) = or_itself types (Apply op e) (culprit types e)
  culprit types (Combine op e f) = or_itself types (Combine op e f) (option_or (culprit types e) (culprit types f))
  culprit types (SequenceOf es) = or_itself types (SequenceOf es) (first_culprit types es)
  culprit types (SetOf es) = or_itself types (SetOf es) (first_culprit types es)
  culprit types (Range e f) = or_itself types (Range e f) (option_or (culprit types e) (culprit types f))
  culprit types (ConstructorOf k es) = or_itself types (ConstructorOf k es) (over_sets (constructor_sets types k) (λ sets. given_culprit types (OfConstructor k) 0 es sets))
  culprit types e = or_itself types e None

  -- in some of them, from left to right
  pub first_culprit : Types → Expressions → Option Culprit
  first_culprit types no_expressions = None
  first_culprit types (expression_and e es) = option_or (culprit types e) (first_culprit types es)

  -- in given fields, each of which has a value in its set; before the first one stand this many
  pub given_culprit : Types → Owner → ℕ → Expressions → List (List Value) → Option Culprit
  given_culprit types owner i no_expressions sets = None
  given_culprit types owner i (expression_and e es) [] = Some Misfit
  given_culprit types owner i (expression_and e es) (set ∷ sets) =
      option_or (culprit types e) (option_or (outside owner i set (value types e)) (given_culprit types owner (suc i) es sets))

-- in one given field
abbrev pub field_culprit : Types → Owner → ℕ → List Value → Expression → Option Culprit
field_culprit types owner i set e = option_or (culprit types e) (outside owner i set (value types e))

-- in a condition
abbrev pub condition_culprit : Types → Expression → Option Culprit
condition_culprit types e = option_or (culprit types e) (misfit (condition types e))

-- in a set whose members are asked for
abbrev pub members_culprit : Types → Expression → Option Culprit
members_culprit types e = option_or (culprit types e) (misfit (elements types e))

-- the members of a set, where it has a value
abbrev pub listed : Result (List Value) Cause → List Value
listed (Ok vs) = vs
listed (Err c) = []

abbrev pub members : Types → Expression → List Value
members types e = listed (elements types e)
