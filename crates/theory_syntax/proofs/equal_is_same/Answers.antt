use Rattle.theory_syntax.proofs.Equalities.{value_same, value_refl, event_same, event_refl}
use Rattle.theory_syntax.proofs.equal_is_same.Goals as goal

pub returns-clause-values : goal.returns-clause-values
returns-clause-values c = value_same

pub returns-clause-same_values : goal.returns-clause-same_values
returns-clause-same_values c = value_refl

pub returns-clause-events : goal.returns-clause-events
returns-clause-events c = event_same

pub returns-clause-same_events : goal.returns-clause-same_events
returns-clause-same_events c = event_refl
