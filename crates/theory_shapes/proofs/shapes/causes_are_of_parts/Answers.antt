use Rattle.theory_shapes.proofs.ByParts.{causes_by_parts}
use Rattle.theory_shapes.proofs.shapes.causes_are_of_parts.Goals as goal

pub returns : goal.returns
returns c = causes_by_parts
