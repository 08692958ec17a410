-- What is made so far is the chain of the instances so far.
use Rattle.std.proofs.Common.{◌≡◌, take}
use Rattle.theory_syntax.specs.Process.{InternalChoice}
use Rattle.theory_semantics.specs.Meaning.Transitions.{left_grouped}
use Rattle.csp_steps.specs.Answering.{target_of, within_limits}
use Rattle.csp_steps.specs.Replicating.{instance_of, instances_of}
use Rattle.csp_steps.proofs.rules.replicated.Instances.choices.Given as goal

abbrev pub invariant-loop-value : goal.invariant-loop-value
invariant-loop-value g l = target_of l.chain ≡ within_limits (left_grouped InternalChoice (instance_of l.self l.first) (instances_of l.self (take l.value-index l.others)))
