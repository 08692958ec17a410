use Rattle.theory_reader.proofs.CompleteExpressions.{expressions_whole}
use Rattle.theory_reader.proofs.Readings.{processes_whole, declarations_whole}
use Rattle.theory_reader.proofs.forms_are_read.Goals as goal

pub returns-clause-expressions : goal.returns-clause-expressions
returns-clause-expressions g = expressions_whole

pub returns-clause-processes : goal.returns-clause-processes
returns-clause-processes g = processes_whole

pub returns-clause-declarations : goal.returns-clause-declarations
returns-clause-declarations g = declarations_whole
