use Rattle.theory_runs.proofs.Behind.{failed_done, few_behind}
use Rattle.theory_runs.proofs.runs.failed_searches_have_few_behind.Goals as goal

pub returns : goal.returns
returns c = λ script s i lawful is fails. few_behind script s lawful (failed_done script s i lawful is fails)
