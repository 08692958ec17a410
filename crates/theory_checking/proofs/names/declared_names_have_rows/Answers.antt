use Rattle.theory_checking.proofs.DeclaredRows.{rows_have_spellings, rows_of_one_more, first_rows}
use Rattle.theory_checking.proofs.names.declared_names_have_rows.Goals as goal

pub returns-clause-spellings : goal.returns-clause-spellings
returns-clause-spellings c = rows_have_spellings

pub returns-clause-next : goal.returns-clause-next
returns-clause-next c = rows_of_one_more

pub returns-clause-above : goal.returns-clause-above
returns-clause-above c = first_rows
