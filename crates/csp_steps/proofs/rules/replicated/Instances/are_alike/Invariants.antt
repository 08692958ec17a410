-- The instances so far are that of the first.
use Rattle.std.proofs.Common.{◌≡◌, take}
use Rattle.csp_steps.specs.Answering.{target_of, within_limits}
use Rattle.csp_steps.specs.Replicating.{AreAlike, instance_of}
use Rattle.csp_steps.proofs.rules.replicated.Instances.are_alike.Given as goal

abbrev pub invariant-loop-value : goal.invariant-loop-value
invariant-loop-value g l = (target_of l.expected ≡ within_limits (instance_of l.self l.first)) × AreAlike l.self l.first (take l.value-index l.others)
