use Rattle.std.proofs.Common.{refl}
use Rattle.theory_spelling.specs.Spelling.{number_spelling}
use Rattle.theory_shapes.proofs.shapes.shape_of_a_small_term.Goals as goal

pub returns-clause-pieces : goal.returns-clause-pieces
unfolding number_spelling
returns-clause-pieces c = refl
