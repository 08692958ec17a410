use Rattle.theory_checking.proofs.FirstRefused.{one_script}
use Rattle.theory_checking.proofs.script_is_one.Goals as goal

pub returns : goal.returns
returns c = one_script
