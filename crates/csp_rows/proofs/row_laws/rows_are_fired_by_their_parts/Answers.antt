use Rattle.csp_rows.proofs.RowsFired.{row_large, told_fired}
use Rattle.csp_rows.proofs.row_laws.rows_are_fired_by_their_parts.Goals as goal

pub returns-clause-fired : goal.returns-clause-fired
returns-clause-fired g c = λ z script d actions told are done same fit. told_fired z script d are actions told (done are.never_fall) same fit

pub returns-clause-large : goal.returns-clause-large
returns-clause-large g c = λ z script r pool s run answer is has tells past. row_large z script r is pool s run answer has tells past
