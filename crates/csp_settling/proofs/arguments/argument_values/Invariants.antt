use Rattle.csp_expression.specs.Bindings.{bindings_of}
use Rattle.csp_expression.specs.Evaluation.{table_of}
use Rattle.csp_settling.proofs.Seeing.{SeenSoFar}
use Rattle.csp_settling.proofs.arguments.argument_values.Given as goal

abbrev pub invariant-loop-argument : goal.invariant-loop-argument
invariant-loop-argument g l = SeenSoFar (table_of l.types) (bindings_of l.bindings) l.arguments l.argument-index l.values.items
