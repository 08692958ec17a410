use Rattle.theory_explanation.proofs.Stops.{stop_known, stops_once}
use Rattle.theory_explanation.proofs.told_stops_are_known.Goals as goal

pub returns-clause-known : goal.returns-clause-known
returns-clause-known c = stop_known

pub returns-clause-one : goal.returns-clause-one
returns-clause-one c = stops_once
