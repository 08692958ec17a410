use Rattle.theory_shapes.proofs.ByParts.{closed_by_parts, parts_are_terms}
use Rattle.theory_shapes.proofs.shapes.parts_are_terms_of_the_script.Goals as goal

pub returns : goal.returns
returns c = record { closed = closed_by_parts; parts = parts_are_terms }
