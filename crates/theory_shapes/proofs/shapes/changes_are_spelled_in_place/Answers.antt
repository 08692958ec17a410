use Rattle.theory_shapes.proofs.InPlace.{changed_in_place}
use Rattle.theory_shapes.proofs.shapes.changes_are_spelled_in_place.Goals as goal

pub returns : goal.returns
returns c = λ s parts cs long rise. changed_in_place s parts long cs rise
