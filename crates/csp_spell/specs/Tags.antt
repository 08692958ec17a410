-- The tags of the code's operators.
use Rattle.std.specs.Prelude.{ℕ}
use Rattle.theory_syntax.specs.declared.event_set_operator.EventSetOperator.{EventSetOperator}
use Rattle.theory_syntax.specs.declared.event_set_operator.EventSetOperator.TheVariants as operator
use Rattle.theory_syntax.specs.declared.process_operator.ProcessOperator.{ProcessOperator}
use Rattle.theory_syntax.specs.declared.process_operator.ProcessOperator.TheVariants as binary
use Rattle.theory_syntax.specs.declared.process_operator.ReplicatedOperator.{ReplicatedOperator}
use Rattle.theory_syntax.specs.declared.process_operator.ReplicatedOperator.TheVariants as replicated

-- of two sets of events
abbrev pub event_set_tag : EventSetOperator → ℕ
event_set_tag operator.Union = 0x2a
event_set_tag operator.Intersection = 0x2b
event_set_tag operator.Difference = 0x2c

-- of two processes
abbrev pub process_tag : ProcessOperator → ℕ
process_tag binary.ExternalChoice = 0x08
process_tag binary.InternalChoice = 0x09
process_tag binary.Sequential = 0x0a
process_tag binary.Interleaving = 0x0b
process_tag binary.Interrupt = 0x0c

-- of a process for each value of a set
abbrev pub replicated_tag : ReplicatedOperator → ℕ
replicated_tag replicated.ExternalChoice = 0x11
replicated_tag replicated.InternalChoice = 0x12
replicated_tag replicated.Interleaving = 0x13
