-- What an operator of the code stands for.
use Rattle.std.specs.Prelude.{ℕ}
use Rattle.theory_syntax.specs.Expression as pure
use Rattle.theory_syntax.specs.Process.{EventSet, EventUnion, EventIntersection, EventDifference, Process, ExternalChoice, InternalChoice, Sequential, Interleaving, Interrupt, ReplicatedExternalChoice, ReplicatedInternalChoice, ReplicatedInterleaving}
use Rattle.theory_syntax.specs.declared.operator.UnaryOperator.{UnaryOperator}
use Rattle.theory_syntax.specs.declared.operator.UnaryOperator.TheVariants as unary
use Rattle.theory_syntax.specs.declared.operator.BinaryOperator.{BinaryOperator}
use Rattle.theory_syntax.specs.declared.operator.BinaryOperator.TheVariants as binary
use Rattle.theory_syntax.specs.declared.event_set_operator.EventSetOperator.{EventSetOperator}
use Rattle.theory_syntax.specs.declared.event_set_operator.EventSetOperator.TheVariants as set_operator
use Rattle.theory_syntax.specs.declared.process_operator.ProcessOperator.{ProcessOperator}
use Rattle.theory_syntax.specs.declared.process_operator.ProcessOperator.TheVariants as process_operator
use Rattle.theory_syntax.specs.declared.process_operator.ReplicatedOperator.{ReplicatedOperator}
use Rattle.theory_syntax.specs.declared.process_operator.ReplicatedOperator.TheVariants as replicated

abbrev pub unary_of : UnaryOperator → pure.Unary
unary_of unary.Negate = pure.Negate
unary_of unary.Not = pure.Not
unary_of unary.Length = pure.Length
unary_of unary.Head = pure.Head
unary_of unary.Tail = pure.Tail
unary_of unary.IsNull = pure.IsNull
unary_of unary.Card = pure.Card

abbrev pub binary_of : BinaryOperator → pure.Binary
binary_of binary.Add = pure.Add
binary_of binary.Subtract = pure.Subtract
binary_of binary.Multiply = pure.Multiply
binary_of binary.Modulus = pure.Modulus
binary_of binary.Concatenate = pure.Concatenate
binary_of binary.Equals = pure.Equals
binary_of binary.Differs = pure.Differs
binary_of binary.LessThan = pure.LessThan
binary_of binary.AtMost = pure.AtMost
binary_of binary.GreaterThan = pure.GreaterThan
binary_of binary.AtLeast = pure.AtLeast
binary_of binary.And = pure.And
binary_of binary.Or = pure.Or
binary_of binary.IsElement = pure.IsElement
binary_of binary.IsMember = pure.IsMember
binary_of binary.Union = pure.Union
binary_of binary.Intersection = pure.Intersection
binary_of binary.Difference = pure.Difference

-- two sets of events under an operator
abbrev pub combined : EventSetOperator → EventSet → EventSet → EventSet
combined set_operator.Union a b = EventUnion a b
combined set_operator.Intersection a b = EventIntersection a b
combined set_operator.Difference a b = EventDifference a b

-- two processes under an operator
abbrev pub binary_process : ProcessOperator → Process → Process → Process
binary_process process_operator.ExternalChoice p q = ExternalChoice p q
binary_process process_operator.InternalChoice p q = InternalChoice p q
binary_process process_operator.Sequential p q = Sequential p q
binary_process process_operator.Interleaving p q = Interleaving p q
binary_process process_operator.Interrupt p q = Interrupt p q

-- a process for each value of a set
abbrev pub replicated_process : ReplicatedOperator → ℕ → pure.Expression → Process → Process
replicated_process replicated.ExternalChoice n e p = ReplicatedExternalChoice n e p
replicated_process replicated.InternalChoice n e p = ReplicatedInternalChoice n e p
replicated_process replicated.Interleaving n e p = ReplicatedInterleaving n e p
