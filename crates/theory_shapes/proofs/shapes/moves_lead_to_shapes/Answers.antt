use Rattle.theory_shapes.proofs.After.{after_move}
use Rattle.theory_shapes.proofs.shapes.moves_lead_to_shapes.Goals as goal

pub returns : goal.returns
returns c = after_move
