use Rattle.std.proofs.Common.{drop}
use Rattle.csp_value.specs.Fields.{sets_of}
use Rattle.csp_expression.specs.Choosing.{HasEmptySet}
use Rattle.csp_expression.proofs.constructors.has_empty_set.Given as goal

abbrev pub invariant-loop-set : goal.invariant-loop-set
invariant-loop-set g l = HasEmptySet (sets_of l.sets) → HasEmptySet (sets_of (drop l.set-index l.sets))
