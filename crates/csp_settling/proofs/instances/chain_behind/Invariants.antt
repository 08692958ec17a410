-- The chain of the instances so far.
use Rattle.std.proofs.Common.{◌≡◌, map, take}
use Rattle.theory_syntax.specs.Operators.{binary_process}
use Rattle.theory_semantics.specs.Meaning.Chains.{left_grouped}
use Rattle.csp_term.specs.Term.{process_of}
use Rattle.csp_settling.proofs.Chaining.{instance_of}
use Rattle.csp_settling.proofs.instances.chain_behind.Given as goal

abbrev pub invariant-loop-value : goal.invariant-loop-value
invariant-loop-value g l =
    process_of l.chain ≡ left_grouped (binary_process l.operator) (process_of l.fn.first) (map (instance_of l.name.0 (process_of l.body)) (take l.value-index l.others))
