use Rattle.theory_unfolding.proofs.Offering.{stable_is_settled, accepts_on, accepts_back}
use Rattle.theory_unfolding.proofs.both_readings.offers_are_the_same.Goals as goal

pub returns-clause-stable : goal.returns-clause-stable
returns-clause-stable c = λ s t v d is. stable_is_settled s t v is d

pub returns-clause-kept : goal.returns-clause-kept
returns-clause-kept c = accepts_on

pub returns-clause-real : goal.returns-clause-real
returns-clause-real c = accepts_back
