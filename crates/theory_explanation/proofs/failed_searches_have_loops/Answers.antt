use Rattle.theory_runs.proofs.Behind.{failed_done, few_behind}
use Rattle.theory_explanation.proofs.failed_searches_have_loops.Goals as goal

pub returns : goal.returns
returns c = λ script s i v lawful is fails wide. few_behind script s lawful (failed_done script s i lawful is fails) v.path wide.many
