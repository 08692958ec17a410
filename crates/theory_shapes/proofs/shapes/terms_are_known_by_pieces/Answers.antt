use Rattle.theory_shapes.proofs.Known.{known_by_pieces}
use Rattle.theory_shapes.proofs.shapes.terms_are_known_by_pieces.Goals as goal

pub returns : goal.returns
returns c = known_by_pieces
