use Rattle.csp_rows.proofs.Covering.{covered}
use Rattle.csp_rows.proofs.row_laws.rows_are_covered_by_their_parts.Goals as goal

pub returns : goal.returns
returns g c = λ z script d are. covered z script d are
