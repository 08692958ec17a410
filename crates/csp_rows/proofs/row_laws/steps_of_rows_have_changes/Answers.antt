use Rattle.csp_rows.proofs.Covering.{some_changes}
use Rattle.csp_rows.proofs.row_laws.steps_of_rows_have_changes.Goals as goal

pub returns : goal.returns
returns g c = λ z script d are s has. some_changes z script d are s has
