use Rattle.theory_walk.proofs.Going.{walk_on_run}
use Rattle.theory_walk.proofs.walks_are_runs.Goals as goal

pub returns : goal.returns
returns c = λ script names width start. walk_on_run script start names width
