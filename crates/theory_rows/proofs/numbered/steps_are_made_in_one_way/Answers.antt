use Rattle.theory_rows.proofs.GraftSteps.{steps_alike, steps_made}
use Rattle.theory_rows.proofs.numbered.steps_are_made_in_one_way.Goals as goal

pub returns : goal.returns
returns c = record { each = λ f. steps_made f; alike = steps_alike }
