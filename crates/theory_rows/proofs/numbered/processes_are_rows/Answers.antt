use Rattle.theory_rows.proofs.Rows.{one_row, row_apart, some_row}
use Rattle.theory_rows.proofs.numbered.processes_are_rows.Goals as goal

pub returns : goal.returns
returns c = record { apart = row_apart; one = one_row; each = some_row }
