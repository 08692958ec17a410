use Rattle.std.proofs.Common.{refl}
use Rattle.std.specs.Fmt.{digits}
use Rattle.theory_explanation.proofs.texts_of_part_names.Goals as goal

pub returns-clause-event : goal.returns-clause-event
unfolding digits
returns-clause-event c = refl

pub returns-clause-renamed : goal.returns-clause-renamed
unfolding digits
returns-clause-renamed c = refl

pub returns-clause-hidden : goal.returns-clause-hidden
unfolding digits
returns-clause-hidden c = refl

pub returns-clause-below : goal.returns-clause-below
unfolding digits
returns-clause-below c = refl
