use Rattle.std.proofs.Common.{refl}
use Rattle.std.specs.Fmt.{digits}
use Rattle.theory_explanation.proofs.texts_of_culprits.Goals as goal

pub returns-clause-number : goal.returns-clause-number
unfolding digits
returns-clause-number c = refl

pub returns-clause-set : goal.returns-clause-set
unfolding digits
returns-clause-set c = refl

pub returns-clause-head : goal.returns-clause-head
unfolding digits
returns-clause-head c = refl

pub returns-clause-tail : goal.returns-clause-tail
unfolding digits
returns-clause-tail c = refl

pub returns-clause-remainder : goal.returns-clause-remainder
unfolding digits
returns-clause-remainder c = refl

pub returns-clause-channel : goal.returns-clause-channel
unfolding digits
returns-clause-channel c = refl

pub returns-clause-constructor : goal.returns-clause-constructor
unfolding digits
returns-clause-constructor c = refl

pub returns-clause-choice : goal.returns-clause-choice
unfolding digits
returns-clause-choice c = refl
