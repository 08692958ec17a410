use Rattle.theory_runs.proofs.Visiting.{ends_met}
use Rattle.theory_runs.proofs.runs.ends_meet_violations.Goals as goal

pub returns : goal.returns
returns c = ends_met
