use Rattle.csp_rows.proofs.SmallRow.{is_small_row, z}
use Rattle.csp_rows.proofs.row_laws.a_small_row.Goals as goal

pub returns : goal.returns
returns g c = λ bits omega_part stop_part skip_part one two three. (z, is_small_row bits omega_part stop_part skip_part one two three)
