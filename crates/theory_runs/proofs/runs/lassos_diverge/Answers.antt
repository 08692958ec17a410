use Rattle.theory_runs.proofs.Lassos.{each_diverges}
use Rattle.theory_runs.proofs.runs.lassos_diverge.Goals as goal

pub returns : goal.returns
returns c = λ script t states back again lasso. each_diverges script t states back again lasso
