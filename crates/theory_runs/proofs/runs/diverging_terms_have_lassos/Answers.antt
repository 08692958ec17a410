use Rattle.theory_runs.proofs.Lassos.{has_lasso}
use Rattle.theory_runs.proofs.runs.diverging_terms_have_lassos.Goals as goal

pub returns : goal.returns
returns c = λ script terms t stay there long. has_lasso script terms stay t there long
