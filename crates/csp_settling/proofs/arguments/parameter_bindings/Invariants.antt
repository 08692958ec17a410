use Rattle.std.proofs.Common.{◌≡◌, Ok, map, take}
use Rattle.theory_semantics.specs.Meaning.Events.{parameter_bindings}
use Rattle.csp_expression.specs.Bindings.{bindings_of}
use Rattle.csp_settling.specs.Arguments.{seen_values}
use Rattle.csp_settling.proofs.arguments.parameter_bindings.Given as goal

abbrev pub invariant-loop-place : goal.invariant-loop-place
invariant-loop-place g l = parameter_bindings (map (λ n. n.0) (take l.place l.parameters)) (seen_values (take l.place l.values)) ≡ Ok (bindings_of l.bindings.items)
