use Rattle.std.proofs.Common.{refl}
use Rattle.theory_semantics.proofs.WorkedRows.{looping_diverges, stop_converges, stop_deadlocked}
use Rattle.theory_semantics.proofs.divergence_and_deadlock.Goals as goal

pub returns-clause-unfolding : goal.returns-clause-unfolding
returns-clause-unfolding c = looping_diverges

pub returns-clause-stop : goal.returns-clause-stop
returns-clause-stop c = stop_converges

pub returns-clause-deadlocked : goal.returns-clause-deadlocked
returns-clause-deadlocked c = stop_deadlocked

pub returns-clause-ended : goal.returns-clause-ended
returns-clause-ended c = λ s d. d.0 refl
