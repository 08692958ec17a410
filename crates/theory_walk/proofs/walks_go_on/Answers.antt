use Rattle.theory_walk.proofs.Going.{walk_more}
use Rattle.theory_walk.proofs.walks_go_on.Goals as goal

pub returns : goal.returns
returns c = walk_more
