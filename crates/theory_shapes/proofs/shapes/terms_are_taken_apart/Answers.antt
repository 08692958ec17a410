use Rattle.theory_shapes.proofs.Apart.{as_many, filled_again, only_parts}
use Rattle.theory_shapes.proofs.shapes.terms_are_taken_apart.Goals as goal

pub returns : goal.returns
returns c = record { again = filled_again; holes = as_many; parts = only_parts }
