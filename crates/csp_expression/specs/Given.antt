-- Given fields, whose values lie in their sets.
use Rattle.std.specs.Prelude.{List, Result}
use Rattle.theory_syntax.specs.Value.{Value}
use Rattle.theory_syntax.specs.Expression.{Expression}
use Rattle.theory_syntax.specs.Types.{Types}
use Rattle.theory_semantics.specs.Meaning.Evaluation.{Cause, ◌and_then◌, in_field_set, value}

-- the value of a given field, which has to lie in its field set
abbrev pub given : Types → Expression → List Value → Result Value Cause
given types e set = value types e and_then λ v. in_field_set set v
