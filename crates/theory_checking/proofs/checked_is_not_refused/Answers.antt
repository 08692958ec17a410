use Rattle.theory_checking.proofs.FirstRefused.{checked_is_fine}
use Rattle.theory_checking.proofs.checked_is_not_refused.Goals as goal

pub returns : goal.returns
returns c = checked_is_fine
