-- The text of what is to blame where a rule lacks a value.
use Rattle.std.specs.Prelude.{ℕ, Bool, true, false, List, [], ◌∷◌, ◌++◌, codes, decimal, Option, Some, None}
use Rattle.theory_syntax.specs.Expression.{Apply, Head, Combine, Add, Subtract, Multiply, Expression}
use Rattle.theory_syntax.specs.Process.{Process, Script}
use Rattle.theory_semantics.specs.Meaning.Evaluation.{BadModulus, Cause, EmptySequence, Overflow}
use Rattle.theory_faults.specs.Culprit.{Culprit, Misfit, NoChoice, OfChannel, OfConstructor, Outside, Owner, Valueless}
use Rattle.theory_faults.specs.Processes.{culprit_in}
use Rattle.theory_search.specs.Printing.{name_at}
use Rattle.theory_notation.specs.Expressions.{expression_text}
use Rattle.theory_notation.specs.Names.{Names}
use Rattle.theory_notation.specs.Values.{value_text}

-- what is to blame in the last one of the states
abbrev pub last_culprit : Script → List Process → Option Culprit
last_culprit script [] = None
last_culprit script (t ∷ []) = culprit_in script t
last_culprit script (t ∷ u ∷ states) = last_culprit script (u ∷ states)

-- an operator whose values are numbers, where it is not of sets or sequences
abbrev pub is_of_numbers : Expression → Bool
is_of_numbers (Apply op e) = true
is_of_numbers (Combine Add e f) = true
is_of_numbers (Combine Subtract e f) = true
is_of_numbers (Combine Multiply e f) = true
is_of_numbers e = false

abbrev pub overflow_text : Bool → List ℕ
overflow_text true = codes "it lies outside of 32 bits"
overflow_text false = codes "it has more than 1,024 members"

abbrev pub empty_text : Expression → List ℕ
empty_text (Apply Head e) = codes "it is the head of an empty sequence"
empty_text e = codes "it is the tail of an empty sequence"

-- why the expression has no value, by the cause; where the kinds are right it is one of the first three
abbrev pub why_text : Expression → Cause → List ℕ
why_text e Overflow = overflow_text (is_of_numbers e)
why_text e EmptySequence = empty_text e
why_text e BadModulus = codes "the right side of `%` is not positive"
why_text e c = codes "a part of it is of the wrong kind"

abbrev pub owner_text : Names → Owner → List ℕ
owner_text names (OfChannel c) = name_at names.channels c
owner_text names (OfConstructor k) = name_at names.constructors k

-- what is to blame, and why
abbrev pub culprit_text : Names → Culprit → List ℕ
culprit_text names (Valueless e c) = codes "`" ++ (expression_text names e ++ (codes "` has no value: " ++ why_text e c))
culprit_text names (Outside owner n v) =
    codes "field " ++ (decimal n ++ (codes " of `" ++ (owner_text names owner ++ (codes "` is given `" ++ (value_text names v ++ codes "`, which lies outside of its set")))))
culprit_text names (NoChoice n e) = codes "`|~| " ++ (name_at names.bound n ++ (codes ":" ++ (expression_text names e ++ codes "` has nothing to choose from")))
culprit_text names Misfit = codes "a part is of the wrong kind"

-- so on a line of its own, or what is always true there
abbrev pub blame_line : Names → Option Culprit → List ℕ
blame_line names (Some k) = codes "  there " ++ (culprit_text names k ++ codes "\n")
blame_line names None = codes "  there a rule lacks a value\n"
