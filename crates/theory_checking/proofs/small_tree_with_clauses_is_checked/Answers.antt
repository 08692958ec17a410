use Rattle.theory_checking.proofs.ClauseTrees.{sent_checked}
use Rattle.theory_checking.proofs.small_tree_with_clauses_is_checked.Goals as goal

pub returns : goal.returns
returns c = sent_checked
