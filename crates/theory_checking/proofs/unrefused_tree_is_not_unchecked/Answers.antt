use Rattle.theory_checking.proofs.Unrefused.{not_unchecked}
use Rattle.theory_checking.proofs.unrefused_tree_is_not_unchecked.Goals as goal

pub returns : goal.returns
returns c = not_unchecked
