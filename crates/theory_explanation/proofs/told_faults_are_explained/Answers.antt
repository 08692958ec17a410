use Rattle.theory_explanation.proofs.Blamed.{run_blamed}
use Rattle.theory_explanation.proofs.told_faults_are_explained.Goals as goal

pub returns : goal.returns
returns c = run_blamed
