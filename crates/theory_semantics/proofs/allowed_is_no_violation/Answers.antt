use Rattle.theory_semantics.proofs.Refining.{no_evidence}
use Rattle.theory_semantics.proofs.allowed_is_no_violation.Goals as goal

pub returns : goal.returns
returns c = λ script a path t allowed e. no_evidence script a.property path t e allowed
