use Rattle.std.proofs.Common.{refl}
use Rattle.std.specs.Fmt.{digits}
use Rattle.json.proofs.OnLiterals.{json_on_literals}
use Rattle.theory_objects.proofs.lines_of_small_objects.Goals as goal

pub returns-clause-none : goal.returns-clause-none
unfolding json_on_literals
returns-clause-none c = refl

pub returns-clause-fields : goal.returns-clause-fields
unfolding json_on_literals digits
returns-clause-fields c = refl

pub returns-clause-escaped : goal.returns-clause-escaped
unfolding json_on_literals
returns-clause-escaped c = refl

pub returns-clause-cost : goal.returns-clause-cost
unfolding json_on_literals digits
returns-clause-cost c = refl

pub returns-clause-time : goal.returns-clause-time
unfolding json_on_literals digits
returns-clause-time c = refl

pub returns-clause-refused : goal.returns-clause-refused
unfolding json_on_literals
returns-clause-refused c = refl

pub returns-clause-unread : goal.returns-clause-unread
unfolding json_on_literals
returns-clause-unread c = refl

pub returns-clause-help : goal.returns-clause-help
unfolding json_on_literals
returns-clause-help c = refl

pub returns-clause-no_help : goal.returns-clause-no_help
unfolding json_on_literals
returns-clause-no_help c = refl
