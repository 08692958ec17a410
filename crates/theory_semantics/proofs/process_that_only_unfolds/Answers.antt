use Rattle.theory_semantics.proofs.WorkedRows.{no_failure, looping_refines, looping_violated}
use Rattle.theory_semantics.proofs.process_that_only_unfolds.Goals as goal

pub returns-clause-none : goal.returns-clause-none
returns-clause-none c = no_failure

pub returns-clause-implements : goal.returns-clause-implements
returns-clause-implements c = looping_refines

pub returns-clause-specifies : goal.returns-clause-specifies
returns-clause-specifies c = looping_violated
