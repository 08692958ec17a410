use Rattle.std.proofs.Common.{refl}
use Rattle.std.specs.Fmt.{digits}
use Rattle.json.proofs.OnLiterals.{json_on_literals}
use Rattle.theory_objects.proofs.lines_of_small_accounts.Goals as goal

pub returns-clause-deadlock : goal.returns-clause-deadlock
unfolding json_on_literals digits
returns-clause-deadlock c = refl

pub returns-clause-divergence : goal.returns-clause-divergence
unfolding json_on_literals digits
returns-clause-divergence c = refl

pub returns-clause-alone : goal.returns-clause-alone
unfolding json_on_literals digits
returns-clause-alone c = refl

pub returns-clause-side : goal.returns-clause-side
unfolding json_on_literals digits
returns-clause-side c = refl

pub returns-clause-other : goal.returns-clause-other
unfolding json_on_literals digits
returns-clause-other c = refl

pub returns-clause-none : goal.returns-clause-none
unfolding json_on_literals digits
returns-clause-none c = refl

pub returns-clause-wide : goal.returns-clause-wide
unfolding json_on_literals digits
returns-clause-wide c = refl

pub returns-clause-no_run : goal.returns-clause-no_run
unfolding json_on_literals digits
returns-clause-no_run c = refl
