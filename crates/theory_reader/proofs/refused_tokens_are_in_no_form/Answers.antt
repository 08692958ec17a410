use Rattle.theory_reader.proofs.Readings.{expressions_refuse, processes_refuse, declarations_refuse}
use Rattle.theory_reader.proofs.refused_tokens_are_in_no_form.Goals as goal

pub returns-clause-expressions : goal.returns-clause-expressions
returns-clause-expressions g = expressions_refuse

pub returns-clause-processes : goal.returns-clause-processes
returns-clause-processes g = processes_refuse

pub returns-clause-declarations : goal.returns-clause-declarations
returns-clause-declarations g = declarations_refuse
