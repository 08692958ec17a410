use Rattle.std.proofs.Common.{refl}
use Rattle.std.specs.Fmt.{digits}
use Rattle.theory_explanation.proofs.texts_of_steps.Goals as goal

pub returns-clause-tau : goal.returns-clause-tau
unfolding digits
returns-clause-tau c = refl

pub returns-clause-event : goal.returns-clause-event
unfolding digits
returns-clause-event c = refl
