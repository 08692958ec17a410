use Rattle.theory_reader.proofs.Readings.{expressions_some, processes_some, declarations_some}
use Rattle.theory_reader.proofs.read_forms_are_forms.Goals as goal

pub returns-clause-expressions : goal.returns-clause-expressions
returns-clause-expressions g = expressions_some

pub returns-clause-processes : goal.returns-clause-processes
returns-clause-processes g = processes_some

pub returns-clause-declarations : goal.returns-clause-declarations
returns-clause-declarations g = declarations_some
