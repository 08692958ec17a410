use Rattle.theory_runs.proofs.AllDone.{run_of}
use Rattle.theory_runs.proofs.stuck_runs.a_stuck_run_is_one.Goals as goal

pub returns : goal.returns
returns c = λ script t h path states run none. none path run.end (run_of script path t run.end states run.visits) run.stuck
