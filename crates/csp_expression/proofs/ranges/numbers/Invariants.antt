use Rattle.std.proofs.Common.{◌≡◌}
use Rattle.theory_semantics.specs.Meaning.Evaluation.{numbers_from}
use Rattle.csp_value.specs.Value.{values_of}
use Rattle.csp_expression.proofs.ranges.numbers.Given as goal

abbrev pub invariant-loop-offset : goal.invariant-loop-offset
invariant-loop-offset g l = values_of l.members.items ≡ numbers_from l.fn.from l.offset
