use Rattle.std.proofs.Common.{refl}
use Rattle.std.specs.Fmt.{digits}
use Rattle.theory_walk.proofs.answers_to_commands.Goals as goal

pub returns-clause-number : goal.returns-clause-number
unfolding digits
returns-clause-number c = refl

pub returns-clause-event : goal.returns-clause-event
unfolding digits
returns-clause-event c = refl

pub returns-clause-several : goal.returns-clause-several
unfolding digits
returns-clause-several c = refl

pub returns-clause-none : goal.returns-clause-none
unfolding digits
returns-clause-none c = refl

pub returns-clause-back : goal.returns-clause-back
unfolding digits
returns-clause-back c = refl

pub returns-clause-start : goal.returns-clause-start
unfolding digits
returns-clause-start c = refl
