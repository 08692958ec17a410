use Rattle.std.proofs.Common.{refl}
use Rattle.std.specs.Fmt.{digits}
use Rattle.theory_notation.proofs.texts_of_values.Goals as goal

pub returns-clause-sequence : goal.returns-clause-sequence
unfolding digits
returns-clause-sequence c = refl

pub returns-clause-constructor : goal.returns-clause-constructor
unfolding digits
returns-clause-constructor c = refl
