use Rattle.theory_shapes.proofs.MovesInPlace.{moved_in_place}
use Rattle.theory_shapes.proofs.shapes.moves_are_spelled_in_place.Goals as goal

pub returns : goal.returns
returns c = moved_in_place
