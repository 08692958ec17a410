use Rattle.std.proofs.Common.{refl}
use Rattle.std.specs.Fmt.{digits}
use Rattle.theory_explanation.proofs.texts_of_tellings.Goals as goal

pub returns-clause-folded : goal.returns-clause-folded
unfolding digits
returns-clause-folded c = refl

pub returns-clause-each : goal.returns-clause-each
unfolding digits
returns-clause-each c = refl

pub returns-clause-events : goal.returns-clause-events
unfolding digits
returns-clause-events c = refl

pub returns-clause-hidden : goal.returns-clause-hidden
unfolding digits
returns-clause-hidden c = refl

pub returns-clause-named : goal.returns-clause-named
unfolding digits
returns-clause-named c = refl

pub returns-clause-events_named : goal.returns-clause-events_named
unfolding digits
returns-clause-events_named c = refl
