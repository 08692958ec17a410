use Rattle.theory_checking.proofs.DeclaredRows.{once_with_one_more, redeclared_is_refusal}
use Rattle.theory_checking.proofs.names.names_are_declared_once_or_refused.Goals as goal

pub returns-clause-next : goal.returns-clause-next
returns-clause-next c = once_with_one_more

pub returns-clause-refused : goal.returns-clause-refused
returns-clause-refused c = λ raw n h. redeclared_is_refusal raw h.0 h.1 n h.2 h.3 h.4
