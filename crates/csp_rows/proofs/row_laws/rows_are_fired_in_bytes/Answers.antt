use Rattle.std.proofs.Common.{sym, subst}
use Rattle.theory_semantics.specs.Meaning.Expansions.{IsFired}
use Rattle.theory_semantics.specs.Meaning.Stepping.{Steps}
use Rattle.csp_rows.specs.InOrder.{offers_in, offers_of}
use Rattle.csp_rows.proofs.RowsFired.{row_fired}
use Rattle.csp_rows.proofs.Reading.{bytes_told}
use Rattle.csp_rows.proofs.row_laws.rows_are_fired_in_bytes.Goals as goal

pub returns : goal.returns
returns g c = λ z script d actions targets told are done fit made read.
    subst (λ (ts : Steps). IsFired script d.row.term ts (offers_in z (offers_of actions))) (sym (bytes_told z script d are targets told fit made read))
    (row_fired z script d are actions (done are.never_fall) fit)
