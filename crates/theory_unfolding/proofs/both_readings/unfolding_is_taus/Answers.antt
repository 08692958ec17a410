use Rattle.theory_unfolding.proofs.Running.{runs_to, step_back}
use Rattle.theory_unfolding.proofs.Following.{followed_by}
use Rattle.theory_unfolding.proofs.both_readings.unfolding_is_taus.Goals as goal

pub returns-clause-taus : goal.returns-clause-taus
returns-clause-taus c = runs_to

pub returns-clause-real : goal.returns-clause-real
returns-clause-real c = step_back

pub returns-clause-followed : goal.returns-clause-followed
returns-clause-followed c = followed_by
