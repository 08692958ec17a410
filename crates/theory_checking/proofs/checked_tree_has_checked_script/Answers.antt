use Rattle.theory_checking.proofs.WellKinded.{checked_script}
use Rattle.theory_checking.proofs.checked_tree_has_checked_script.Goals as goal

pub returns : goal.returns
returns c = checked_script
