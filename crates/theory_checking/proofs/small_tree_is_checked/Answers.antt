use Rattle.theory_checking.proofs.CheckedTrees.{outputs_checked}
use Rattle.theory_checking.proofs.small_tree_is_checked.Goals as goal

pub returns : goal.returns
returns c = outputs_checked
