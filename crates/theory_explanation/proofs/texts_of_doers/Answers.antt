use Rattle.std.proofs.Common.{refl}
use Rattle.std.specs.Fmt.{digits}
use Rattle.theory_explanation.proofs.texts_of_doers.Goals as goal

pub returns-clause-below : goal.returns-clause-below
unfolding digits
returns-clause-below c = refl

pub returns-clause-twice : goal.returns-clause-twice
unfolding digits
returns-clause-twice c = refl

pub returns-clause-together : goal.returns-clause-together
unfolding digits
returns-clause-together c = refl
