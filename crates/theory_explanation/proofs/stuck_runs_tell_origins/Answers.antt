use Rattle.theory_explanation.proofs.Sources.{run_origins_told}
use Rattle.theory_explanation.proofs.stuck_runs_tell_origins.Goals as goal

pub returns : goal.returns
returns c = λ script a v n found i x is there. run_origins_told script a v n found i x is there
