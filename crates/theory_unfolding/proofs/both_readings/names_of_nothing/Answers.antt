use Rattle.std.proofs.Common.{refl}
use Rattle.theory_unfolding.proofs.WorkedRows.{nothing_diverges}
use Rattle.theory_unfolding.proofs.both_readings.names_of_nothing.Goals as goal

pub returns-clause-itself : goal.returns-clause-itself
returns-clause-itself c = refl

pub returns-clause-diverges : goal.returns-clause-diverges
returns-clause-diverges c = nothing_diverges
