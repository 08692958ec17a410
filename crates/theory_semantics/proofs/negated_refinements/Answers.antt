use Rattle.theory_semantics.proofs.WorkedRows.{not_guarded_holds, not_a_denied}
use Rattle.theory_semantics.proofs.negated_refinements.Goals as goal

pub returns-clause-holds : goal.returns-clause-holds
returns-clause-holds c = not_guarded_holds

pub returns-clause-denied : goal.returns-clause-denied
returns-clause-denied c = not_a_denied
