-- The cause that a fault stands for.
use Rattle.std.specs.Prelude.{◌≡◌, Option, Some, None}
use Rattle.theory_semantics.specs.Meaning.Evaluation.{Cause, OutOfRange, Overflow, EmptySequence, BadModulus, EmptyChoice, IllKinded}
use Rattle.csp_expression.specs.declared.fault.Fault.{Fault}
use Rattle.csp_expression.specs.declared.fault.Fault.TheVariants as variant

abbrev pub cause_of : Fault → Cause
cause_of variant.Range = OutOfRange
cause_of variant.Overflow = Overflow
cause_of variant.Empty = EmptySequence
cause_of variant.Modulus = BadModulus
cause_of variant.Choice = EmptyChoice

-- the fault of a cause: none is the one of a wrong kind
abbrev pub IsFaultOf : Cause → Option Fault → Type 0
IsFaultOf c (Some f) = c ≡ cause_of f
IsFaultOf c None = c ≡ IllKinded
