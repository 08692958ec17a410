use Rattle.theory_semantics.proofs.WorkedFreedom.{stop_violates, waits_violates, skip_is_free, unfolding_is_free}
use Rattle.theory_semantics.proofs.freedom_of_deadlock.Goals as goal

pub returns-clause-stop : goal.returns-clause-stop
returns-clause-stop c = stop_violates

pub returns-clause-waits : goal.returns-clause-waits
returns-clause-waits c = waits_violates

pub returns-clause-skip : goal.returns-clause-skip
returns-clause-skip c = skip_is_free

pub returns-clause-unfolding : goal.returns-clause-unfolding
returns-clause-unfolding c = unfolding_is_free
