use Rattle.theory_unfolding.proofs.SettledSides.{same_by_tau, sides_stay}
use Rattle.theory_unfolding.proofs.both_readings.settled_sides_stay_terms.Goals as goal

pub returns-clause-terms : goal.returns-clause-terms
returns-clause-terms c = sides_stay

pub returns-clause-by_tau : goal.returns-clause-by_tau
returns-clause-by_tau c = λ script a read. same_by_tau script read a
