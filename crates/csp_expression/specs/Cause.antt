-- The cause of the definitions that one of the code stands for.
use Rattle.theory_semantics.specs.Meaning.Evaluation as pure
use Rattle.csp_expression.specs.declared.cause.Cause.{Cause}
use Rattle.csp_expression.specs.declared.cause.Cause.TheVariants as variant

abbrev pub cause_of : Cause → pure.Cause
cause_of variant.Range = pure.OutOfRange
cause_of variant.Overflow = pure.Overflow
cause_of variant.Empty = pure.EmptySequence
cause_of variant.Modulus = pure.BadModulus
cause_of variant.Choice = pure.EmptyChoice
cause_of variant.Kind = pure.IllKinded
