use Rattle.theory_runs.proofs.Lassos.{places_end, rows_lead, walks_come_back, walks_go_on}
use Rattle.theory_runs.proofs.runs.walks_find_lassos.Goals as goal

pub returns-clause-goes_on : goal.returns-clause-goes_on
returns-clause-goes_on c = walks_go_on

pub returns-clause-back : goal.returns-clause-back
returns-clause-back c = walks_come_back

pub returns-clause-ends : goal.returns-clause-ends
returns-clause-ends c = places_end

pub returns-clause-rows : goal.returns-clause-rows
returns-clause-rows c = rows_lead
