use Rattle.std.proofs.Common.{refl}
use Rattle.std.specs.Fmt.{digits}
use Rattle.theory_explanation.proofs.texts_of_hidden_events.Goals as goal

pub returns-clause-itself : goal.returns-clause-itself
unfolding digits
returns-clause-itself c = refl

pub returns-clause-side : goal.returns-clause-side
unfolding digits
returns-clause-side c = refl

pub returns-clause-both : goal.returns-clause-both
unfolding digits
returns-clause-both c = refl

pub returns-clause-renamed : goal.returns-clause-renamed
unfolding digits
returns-clause-renamed c = refl
