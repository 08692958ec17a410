use Rattle.theory_runs.proofs.Visiting.{step_by_step}
use Rattle.theory_runs.proofs.runs.visited_states_step.Goals as goal

pub returns : goal.returns
returns c = λ script t u path states visits. step_by_step script path t u states visits
