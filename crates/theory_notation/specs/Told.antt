-- Expressions as they are told: by their values, where there are types to find them by.
use Rattle.std.specs.Prelude.{Bool, true, false, cond, Option, Some, None, Result, Ok, Err}
use Rattle.theory_syntax.specs.Value.{Value, Set}
use Rattle.theory_syntax.specs.Expression.{Expression, Literal, Expressions, no_expressions, expression_and}
use Rattle.theory_syntax.specs.Types.{Types}
use Rattle.theory_semantics.specs.Meaning.Evaluation.{Cause, value}
use Rattle.theory_notation.specs.Names.{Names}

abbrev pub is_set : Value → Bool
is_set (Set vs) = true
is_set v = false

-- What has a value is told by it. A set stays as it is written, since `{0..1023}` is easier to read than its members. One
-- inside of a constructor or a sequence has its members: there the whole is one value, such as a message or a queue.
abbrev pub told_as : Expression → Result Value Cause → Expression
told_as e (Ok v) = cond (is_set v) e (Literal v)
told_as e (Err c) = e

abbrev pub told_by : Option Types → Expression → Expression
told_by (Some types) e = told_as e (value types e)
told_by None e = e

abbrev pub told : Names → Expression → Expression
told names e = told_by names.types e

abbrev pub all_told : Names → Expressions → Expressions
all_told names no_expressions = no_expressions
all_told names (expression_and e es) = expression_and (told names e) (all_told names es)
