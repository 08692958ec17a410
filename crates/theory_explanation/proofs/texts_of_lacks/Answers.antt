use Rattle.std.proofs.Common.{refl}
use Rattle.std.specs.Fmt.{digits}
use Rattle.theory_explanation.proofs.texts_of_lacks.Goals as goal

pub returns-clause-initials : goal.returns-clause-initials
unfolding digits
returns-clause-initials c = refl

pub returns-clause-acceptances : goal.returns-clause-acceptances
unfolding digits
returns-clause-acceptances c = refl
