use Rattle.theory_unfolding.proofs.Refining.{deadlock_free_on, deadlock_free_back}
use Rattle.theory_unfolding.proofs.Diverging.{diverges_on, diverges_back, divergence_free_on, divergence_free_back}
use Rattle.theory_unfolding.proofs.both_readings.names_at_once_keep_freedom.Goals as goal

pub returns-clause-deadlock : goal.returns-clause-deadlock
returns-clause-deadlock c = λ s t v d none. (deadlock_free_on s t v d none, deadlock_free_back s t v d)

pub returns-clause-divergence : goal.returns-clause-divergence
returns-clause-divergence c = λ s t v d none. (divergence_free_on s t v d none, divergence_free_back s t v d)

pub returns-clause-diverges : goal.returns-clause-diverges
returns-clause-diverges c = λ s t v d none. (diverges_back s t v d, diverges_on s t v d none)
