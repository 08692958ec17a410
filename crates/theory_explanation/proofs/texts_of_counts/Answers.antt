use Rattle.std.proofs.Common.{refl}
use Rattle.std.specs.Fmt.{digits}
use Rattle.theory_explanation.proofs.texts_of_counts.Goals as goal

pub returns-clause-refinement : goal.returns-clause-refinement
unfolding digits
returns-clause-refinement c = refl

pub returns-clause-one : goal.returns-clause-one
unfolding digits
returns-clause-one c = refl

pub returns-clause-freedom : goal.returns-clause-freedom
unfolding digits
returns-clause-freedom c = refl
