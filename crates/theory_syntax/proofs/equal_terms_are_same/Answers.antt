use Rattle.theory_syntax.proofs.ProcessOrder.{expression_same, event_set_same, process_same, expression_refl, event_set_refl, process_refl}
use Rattle.theory_syntax.proofs.equal_terms_are_same.Goals as goal

pub returns-clause-processes : goal.returns-clause-processes
returns-clause-processes c = process_same

pub returns-clause-same_processes : goal.returns-clause-same_processes
returns-clause-same_processes c = process_refl

pub returns-clause-expressions : goal.returns-clause-expressions
returns-clause-expressions c = expression_same

pub returns-clause-same_expressions : goal.returns-clause-same_expressions
returns-clause-same_expressions c = expression_refl

pub returns-clause-event_sets : goal.returns-clause-event_sets
returns-clause-event_sets c = event_set_same

pub returns-clause-same_event_sets : goal.returns-clause-same_event_sets
returns-clause-same_event_sets c = event_set_refl
