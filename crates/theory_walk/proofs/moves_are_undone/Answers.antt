use Rattle.theory_walk.proofs.Along.{undone}
use Rattle.theory_walk.proofs.moves_are_undone.Goals as goal

pub returns : goal.returns
returns c = undone
