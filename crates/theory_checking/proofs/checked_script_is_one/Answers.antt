use Rattle.theory_checking.proofs.CheckedTexts.{checked_script_same}
use Rattle.theory_checking.proofs.checked_script_is_one.Goals as goal

pub returns : goal.returns
returns c = checked_script_same
