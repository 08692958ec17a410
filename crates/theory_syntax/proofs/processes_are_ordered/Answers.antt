use Rattle.theory_syntax.proofs.EventSets.{event_set_total}
use Rattle.theory_syntax.proofs.Expressions.{expression_total}
use Rattle.theory_syntax.proofs.Processes.{process_total}
use Rattle.theory_syntax.proofs.processes_are_ordered.Goals as goal

pub returns : goal.returns
returns c = record { processes = process_total; expressions = expression_total; event_sets = event_set_total }
