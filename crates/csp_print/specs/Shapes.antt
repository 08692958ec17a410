-- The operators, the shapes and the positions that those of the code stand for.
use Rattle.std.specs.Prelude.{ℕ, List, codes}
use Rattle.theory_text.specs.Raw as raw
use Rattle.theory_syntax.specs.declared.process_operator.ProcessOperator.{ProcessOperator}
use Rattle.theory_syntax.specs.declared.process_operator.ProcessOperator.TheVariants as operator
use Rattle.theory_syntax.specs.declared.process_operator.ReplicatedOperator.{ReplicatedOperator}
use Rattle.theory_syntax.specs.declared.process_operator.ReplicatedOperator.TheVariants as replicated
use Rattle.theory_notation.specs.Processes as pure
use Rattle.csp_print.specs.declared.shapes.Infix.{Infix}
use Rattle.csp_print.specs.declared.shapes.Infix.TheVariants as joining
use Rattle.csp_print.specs.declared.shapes.Shape.{Shape}
use Rattle.csp_print.specs.declared.shapes.Shape.TheVariants as shape
use Rattle.csp_print.specs.declared.shapes.Position.{Position}
use Rattle.csp_print.specs.declared.shapes.Position.TheVariants as position

abbrev pub operator_of : ProcessOperator → raw.Infix
operator_of operator.ExternalChoice = raw.ExternalInfix
operator_of operator.InternalChoice = raw.InternalInfix
operator_of operator.Sequential = raw.SequentialInfix
operator_of operator.Interleaving = raw.InterleavingInfix
operator_of operator.Interrupt = raw.InterruptInfix

abbrev pub infix_of : Infix → raw.Infix
infix_of (joining.Operator o) = operator_of o
infix_of joining.Sliding = raw.SlidingInfix

abbrev pub shape_of : Shape → pure.Shape
shape_of shape.Base = pure.Base
shape_of shape.Prefixed = pure.Prefixed
shape_of (shape.Chain o) = pure.Chain (infix_of o)
shape_of shape.Renamed = pure.Renamed
shape_of shape.Hidden = pure.Hidden
shape_of shape.Composed = pure.Composed

abbrev pub position_of : Position → pure.Position
position_of (position.LeftOf o) = pure.LeftOf (infix_of o)
position_of position.Operand = pure.Operand
position_of position.BeforeRenaming = pure.BeforeRenaming
position_of position.BeforeHiding = pure.BeforeHiding

-- how the operators over a set are written
abbrev pub replicator_text : ReplicatedOperator → List ℕ
replicator_text replicated.ExternalChoice = codes "[] "
replicator_text replicated.InternalChoice = codes "|~| "
replicator_text replicated.Interleaving = codes "||| "
