use Rattle.std.proofs.Common.{◌≡◌, ◌≤◌, drop, length}
use Rattle.theory_semantics.specs.Meaning.Evaluation.{choices}
use Rattle.csp_value.specs.Fields.{sets_of}
use Rattle.csp_expression.specs.Choosing.{lists_of}
use Rattle.csp_expression.proofs.constructors.choices.Given as goal

abbrev pub invariant-loop-left : goal.invariant-loop-left
invariant-loop-left g l = (l.left ≤ length l.sets) × (lists_of l.all.items ≡ choices (sets_of (drop l.left l.sets)))

abbrev pub decreases-loop-left : goal.decreases-loop-left
decreases-loop-left g l = l.left
