-- States of a search for kinds, and small searches.
use Rattle.std.specs.Prelude.{◌≡◌, ℕ, true, false, List, [], ◌∷◌, map, set, Option, Some, None, option_map}
use Rattle.theory_syntax.specs.Value.{Truth}
use Rattle.theory_syntax.specs.Expression.{Literal, Combine, Equals, SequenceOf, no_expressions, expression_and}
use Rattle.theory_semantics.specs.Laws.Terms.{no_types, num}
use Rattle.theory_checking.specs.Inference.Chain.{Chain, IntEnd, BoolEnd, OpenEnd, SequenceOver, with_ends, in_place_of}
use Rattle.theory_checking.specs.Inference.State.{State, nothing_known, IsOpenIn, KindEquation, ends_in, solve}
use Rattle.theory_checking.specs.Inference.Equations.{no_numbers}
use Rattle.theory_checking.specs.Inference.Expressions.{of_expression}

-- the number is not bound, and the chain ends neither in a bound number nor in this one
abbrev pub CanBeBound : State → ℕ → Chain → Type 0
CanBeBound s n c = (s n ≡ None) × IsOpenIn s c × (ends_in n c ≡ false)

-- the list of chains in which a number is bound to a chain
abbrev pub with_bound : List (Option Chain) → ℕ → Chain → List (Option Chain)
with_bound cs n c = set (map (option_map (with_ends (in_place_of n c))) cs) n (Some c)

-- the states say the same of each number
abbrev pub AreSameStates : State → State → Type 0
AreSameStates s t = (n : ℕ) → s n ≡ t n

-- ---- small searches

-- what is found of a number from these equations alone, if they have a solution
abbrev pub found_of : ℕ → List KindEquation → Option (Option Chain)
found_of n es = option_map (λ s. s n) (solve nothing_known es)

-- 0 is a sequence of 1 and a sequence of numbers
abbrev pub sequence_twice : List KindEquation
sequence_twice = (OpenEnd 0, SequenceOver (OpenEnd 1)) ∷ (OpenEnd 0, SequenceOver IntEnd) ∷ []

-- 0 is a sequence of itself
abbrev pub sequence_of_itself : List KindEquation
sequence_of_itself = (OpenEnd 0, SequenceOver (OpenEnd 0)) ∷ []

-- `<1> == <>`
abbrev pub sequences_compared : List KindEquation
sequences_compared =
    of_expression no_types no_numbers 0 [] (Combine Equals (SequenceOf (expression_and (num 1) no_expressions)) (SequenceOf no_expressions)) BoolEnd

-- `<1,true>`
abbrev pub mixed_sequence : List KindEquation
mixed_sequence =
    of_expression no_types no_numbers 1 [] (SequenceOf (expression_and (num 1) (expression_and (Literal (Truth true)) no_expressions))) (OpenEnd 0)
