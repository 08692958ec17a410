use Rattle.theory_rows.proofs.Fired.{row_depth, row_size, row_spelled}
use Rattle.theory_rows.proofs.numbered.rows_are_measured_and_spelled.Goals as goal

pub returns : goal.returns
returns c = record { size = row_size; depth = row_depth; spelled = row_spelled }
