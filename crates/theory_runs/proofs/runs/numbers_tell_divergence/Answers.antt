use Rattle.theory_runs.proofs.Lassos.{left_terms, numbered_terms}
use Rattle.theory_runs.proofs.runs.numbers_tell_divergence.Goals as goal

pub returns-clause-numbered : goal.returns-clause-numbered
returns-clause-numbered c = numbered_terms

pub returns-clause-left : goal.returns-clause-left
returns-clause-left c = left_terms
