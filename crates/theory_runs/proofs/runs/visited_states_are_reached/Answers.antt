use Rattle.theory_runs.proofs.Visiting.{reached}
use Rattle.theory_runs.proofs.runs.visited_states_are_reached.Goals as goal

pub returns : goal.returns
returns c = λ script t u path states visits. reached script path t u states visits
