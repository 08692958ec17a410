use Rattle.std.proofs.Common.{refl}
use Rattle.std.specs.Fmt.{digits}
use Rattle.theory_explanation.proofs.texts_of_specifications.Goals as goal

pub returns-clause-few : goal.returns-clause-few
unfolding digits
returns-clause-few c = refl
