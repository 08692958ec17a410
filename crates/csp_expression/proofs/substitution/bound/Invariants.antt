use Rattle.std.proofs.Common.{◌≡◌, drop}
use Rattle.theory_semantics.specs.Meaning.Substitution.{bound}
use Rattle.csp_expression.specs.Bindings.{bindings_of}
use Rattle.csp_expression.proofs.substitution.bound.Given as goal

abbrev pub invariant-loop-binding : goal.invariant-loop-binding
invariant-loop-binding g l = bound (bindings_of (drop l.binding-index l.bindings)) l.name.0 ≡ bound (bindings_of l.bindings) l.name.0
