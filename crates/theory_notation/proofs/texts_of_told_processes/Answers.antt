use Rattle.std.proofs.Common.{refl}
use Rattle.std.specs.Fmt.{digits}
use Rattle.theory_notation.proofs.texts_of_told_processes.Goals as goal

pub returns-clause-arguments : goal.returns-clause-arguments
unfolding digits
returns-clause-arguments c = refl

pub returns-clause-fields : goal.returns-clause-fields
unfolding digits
returns-clause-fields c = refl

pub returns-clause-sets : goal.returns-clause-sets
unfolding digits
returns-clause-sets c = refl

pub returns-clause-fault : goal.returns-clause-fault
unfolding digits
returns-clause-fault c = refl

pub returns-clause-events : goal.returns-clause-events
unfolding digits
returns-clause-events c = refl

pub returns-clause-input : goal.returns-clause-input
unfolding digits
returns-clause-input c = refl

pub returns-clause-replicated : goal.returns-clause-replicated
unfolding digits
returns-clause-replicated c = refl
