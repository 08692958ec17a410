use Rattle.theory_unfolding.proofs.Sticking.{stuck_on, stuck_back, none_stuck_on, none_stuck_back, sides_same}
use Rattle.theory_unfolding.proofs.both_readings.stuck_in_both_or_in_none.Goals as goal

pub returns-clause-some : goal.returns-clause-some
returns-clause-some c = λ s t v d. (stuck_back s t v d, stuck_on s t v d)

pub returns-clause-none : goal.returns-clause-none
returns-clause-none c = λ s t v d. (none_stuck_back s t v d, none_stuck_on s t v d)

pub returns-clause-sides : goal.returns-clause-sides
returns-clause-sides c = sides_same
