use Rattle.theory_runs.proofs.Stops.{first_stops_are_one, marked_stop, stopped_have_row}
use Rattle.theory_runs.proofs.stuck_runs.stopped_searches_keep_a_path.Goals as goal

pub returns-clause-stop : goal.returns-clause-stop
returns-clause-stop c = marked_stop

pub returns-clause-row : goal.returns-clause-row
returns-clause-row c = stopped_have_row

pub returns-clause-one : goal.returns-clause-one
returns-clause-one c = first_stops_are_one
