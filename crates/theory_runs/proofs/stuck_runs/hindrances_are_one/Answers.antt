use Rattle.theory_runs.proofs.Forms.{one_hindrance}
use Rattle.theory_runs.proofs.stuck_runs.hindrances_are_one.Goals as goal

pub returns : goal.returns
returns c = λ script t h k other first second. other (one_hindrance script t h k first second)
