use Rattle.theory_unfolding.proofs.Settled.{settled_unfolded}
use Rattle.theory_unfolding.proofs.Answering.{settled_assertions, same_assertion}
use Rattle.theory_unfolding.proofs.both_readings.settled_terms_are_unfolded.Goals as goal

pub returns-clause-term : goal.returns-clause-term
returns-clause-term c = settled_unfolded

pub returns-clause-assertion : goal.returns-clause-assertion
returns-clause-assertion c = settled_assertions

pub returns-clause-itself : goal.returns-clause-itself
returns-clause-itself c = same_assertion
