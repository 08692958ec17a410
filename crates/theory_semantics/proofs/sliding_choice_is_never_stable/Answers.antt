use Rattle.theory_semantics.proofs.Sliding.{never_stable, tick_alone}
use Rattle.theory_semantics.proofs.sliding_choice_is_never_stable.Goals as goal

pub returns-clause-unstable : goal.returns-clause-unstable
returns-clause-unstable c = never_stable

pub returns-clause-acceptances : goal.returns-clause-acceptances
returns-clause-acceptances c = tick_alone
