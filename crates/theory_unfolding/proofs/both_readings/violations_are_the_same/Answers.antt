use Rattle.theory_unfolding.proofs.Answering.{violation_back, violation_on}
use Rattle.theory_unfolding.proofs.both_readings.violations_are_the_same.Goals as goal

pub returns-clause-real : goal.returns-clause-real
returns-clause-real c = violation_back

pub returns-clause-found : goal.returns-clause-found
returns-clause-found c = violation_on
