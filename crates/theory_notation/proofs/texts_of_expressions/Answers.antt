use Rattle.std.proofs.Common.{refl}
use Rattle.std.specs.Fmt.{digits}
use Rattle.theory_notation.proofs.texts_of_expressions.Goals as goal

pub returns-clause-left : goal.returns-clause-left
unfolding digits
returns-clause-left c = refl

pub returns-clause-right : goal.returns-clause-right
unfolding digits
returns-clause-right c = refl

pub returns-clause-ranks : goal.returns-clause-ranks
unfolding digits
returns-clause-ranks c = refl

pub returns-clause-range : goal.returns-clause-range
unfolding digits
returns-clause-range c = refl
