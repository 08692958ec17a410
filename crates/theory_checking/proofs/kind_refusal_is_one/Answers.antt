use Rattle.theory_checking.proofs.FirstRefused.{one_refusal}
use Rattle.theory_checking.proofs.kind_refusal_is_one.Goals as goal

pub returns : goal.returns
returns c = one_refusal
