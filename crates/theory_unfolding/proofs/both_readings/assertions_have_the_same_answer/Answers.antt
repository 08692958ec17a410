use Rattle.theory_unfolding.proofs.Answering.{holds_same, written_same}
use Rattle.theory_unfolding.proofs.both_readings.assertions_have_the_same_answer.Goals as goal

pub returns-clause-plainly : goal.returns-clause-plainly
returns-clause-plainly c = holds_same

pub returns-clause-written : goal.returns-clause-written
returns-clause-written c = written_same
