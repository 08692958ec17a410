use Rattle.csp_rows.proofs.FiredInOrder.{actions_numbers}
use Rattle.csp_rows.proofs.Covering.{sorted_numbered}
use Rattle.csp_rows.proofs.Reading.{offered_numbered}
use Rattle.csp_rows.proofs.row_laws.actions_of_rows_are_numbered.Goals as goal

pub returns-clause-steps : goal.returns-clause-steps
returns-clause-steps g c = λ z script d are. sorted_numbered z script d are

pub returns-clause-offers : goal.returns-clause-offers
returns-clause-offers g c = λ z script d actions are done.
    let all = actions_numbers z d.pool d.sorted actions (done are.never_fall) (sorted_numbered z script d are) in
    (all, offered_numbered z.events actions all)
