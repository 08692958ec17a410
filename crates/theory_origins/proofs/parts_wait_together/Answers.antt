use Rattle.theory_origins.proofs.Parts.{all_wait, stand_there}
use Rattle.theory_origins.proofs.parts_wait_together.Goals as goal

pub returns-clause-placed : goal.returns-clause-placed
returns-clause-placed c = stand_there

pub returns-clause-waits : goal.returns-clause-waits
returns-clause-waits c = all_wait
