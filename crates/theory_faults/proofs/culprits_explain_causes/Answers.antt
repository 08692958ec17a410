use Rattle.theory_faults.proofs.Processes.{culprit_explains}
use Rattle.theory_faults.proofs.culprits_explain_causes.Goals as goal

pub returns : goal.returns
returns c = culprit_explains
