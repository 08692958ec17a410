use Rattle.std.proofs.Common.{refl}
use Rattle.std.specs.Fmt.{digits}
use Rattle.theory_explanation.proofs.texts_of_stops.Goals as goal

pub returns-clause-implementation : goal.returns-clause-implementation
unfolding digits
returns-clause-implementation c = refl

pub returns-clause-specification : goal.returns-clause-specification
unfolding digits
returns-clause-specification c = refl

pub returns-clause-at_once : goal.returns-clause-at_once
unfolding digits
returns-clause-at_once c = refl
