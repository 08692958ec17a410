use Rattle.theory_semantics.proofs.LeastViolations.{least_is_one}
use Rattle.theory_semantics.proofs.least_violation_is_one.Goals as goal

pub returns : goal.returns
returns c = least_is_one
