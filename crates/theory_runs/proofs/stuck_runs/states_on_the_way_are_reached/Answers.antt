use Rattle.theory_runs.proofs.Visiting.{reached}
use Rattle.theory_runs.proofs.stuck_runs.states_on_the_way_are_reached.Goals as goal

pub returns : goal.returns
returns c = λ script t h path states run. reached script path t run.end states run.visits
