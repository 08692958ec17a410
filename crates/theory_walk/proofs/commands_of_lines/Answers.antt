use Rattle.std.proofs.Common.{refl}
use Rattle.theory_walk.proofs.commands_of_lines.Goals as goal

pub returns-clause-number : goal.returns-clause-number
returns-clause-number c = refl

pub returns-clause-event : goal.returns-clause-event
returns-clause-event c = refl

pub returns-clause-back : goal.returns-clause-back
returns-clause-back c = refl

pub returns-clause-end : goal.returns-clause-end
returns-clause-end c = refl

pub returns-clause-again : goal.returns-clause-again
returns-clause-again c = refl
