use Rattle.theory_runs.proofs.Stops.{known_along, one_side}
use Rattle.theory_runs.proofs.stuck_runs.one_side_stops.Goals as goal

pub returns-clause-along : goal.returns-clause-along
returns-clause-along c = known_along

pub returns-clause-one : goal.returns-clause-one
returns-clause-one c = one_side
