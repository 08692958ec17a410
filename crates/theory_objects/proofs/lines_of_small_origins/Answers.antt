use Rattle.std.proofs.Common.{refl}
use Rattle.std.specs.Fmt.{digits}
use Rattle.json.proofs.OnLiterals.{json_on_literals}
use Rattle.theory_objects.proofs.lines_of_small_origins.Goals as goal

pub returns-clause-unfolds : goal.returns-clause-unfolds
unfolding json_on_literals digits
returns-clause-unfolds c = refl

pub returns-clause-chooses : goal.returns-clause-chooses
unfolding json_on_literals digits
returns-clause-chooses c = refl

pub returns-clause-slides : goal.returns-clause-slides
unfolding json_on_literals digits
returns-clause-slides c = refl

pub returns-clause-ends : goal.returns-clause-ends
unfolding json_on_literals digits
returns-clause-ends c = refl

pub returns-clause-does : goal.returns-clause-does
unfolding json_on_literals digits
returns-clause-does c = refl

pub returns-clause-hides : goal.returns-clause-hides
unfolding json_on_literals digits
returns-clause-hides c = refl

pub returns-clause-renames : goal.returns-clause-renames
unfolding json_on_literals digits
returns-clause-renames c = refl

pub returns-clause-together : goal.returns-clause-together
unfolding json_on_literals digits
returns-clause-together c = refl
