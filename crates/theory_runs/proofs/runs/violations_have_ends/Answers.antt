use Rattle.theory_runs.proofs.Visiting.{has_end}
use Rattle.theory_runs.proofs.runs.violations_have_ends.Goals as goal

pub returns : goal.returns
returns c = has_end
