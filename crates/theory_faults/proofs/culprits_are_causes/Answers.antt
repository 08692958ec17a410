use Rattle.theory_semantics.specs.Meaning.Faults.{cause_in}
use Rattle.theory_faults.specs.Processes.{culprit_in}
use Rattle.theory_faults.proofs.Blaming.{blamed_cause}
use Rattle.theory_faults.proofs.Processes.{culprit_explains}
use Rattle.theory_faults.proofs.culprits_are_causes.Goals as goal

pub returns : goal.returns
returns c = λ script p. blamed_cause script (culprit_in script p) (cause_in script p) (culprit_explains script p)
