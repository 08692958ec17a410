use Rattle.theory_checking.proofs.AskingProcesses.{fields_asks, event_asks, set_asks, pairs_asks, process_asks}
use Rattle.theory_checking.proofs.inference.equations_of_processes.Goals as goal

pub returns-clause-fields : goal.returns-clause-fields
returns-clause-fields c = λ types o owners n names fs ms below h. fields_asks types o owners n names fs ms below h

pub returns-clause-events : goal.returns-clause-events
returns-clause-events c = λ types o owners n names e below. event_asks types o owners names n e below

pub returns-clause-event_sets : goal.returns-clause-event_sets
returns-clause-event_sets c = λ types o owners n names s below. set_asks types o owners names n s below

pub returns-clause-pairs : goal.returns-clause-pairs
returns-clause-pairs c = λ script o owners n names rs below. pairs_asks script o owners n names rs below

pub returns-clause-processes : goal.returns-clause-processes
returns-clause-processes c = λ script o owners n names p below. process_asks script o owners n names p below
