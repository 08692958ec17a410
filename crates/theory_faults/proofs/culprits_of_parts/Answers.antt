use Rattle.theory_faults.proofs.Processes.{culprit_of_parts}
use Rattle.theory_faults.proofs.culprits_of_parts.Goals as goal

pub returns : goal.returns
returns c = culprit_of_parts
