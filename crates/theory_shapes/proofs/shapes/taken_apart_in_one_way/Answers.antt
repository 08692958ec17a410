use Rattle.theory_shapes.proofs.Apart.{one_way}
use Rattle.theory_shapes.proofs.shapes.taken_apart_in_one_way.Goals as goal

pub returns : goal.returns
returns c = one_way
