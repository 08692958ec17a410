use Rattle.theory_explanation.proofs.Sources.{origins_told}
use Rattle.theory_explanation.proofs.counterexamples_tell_origins.Goals as goal

pub returns : goal.returns
returns c = λ script a v n found i x is there. origins_told script a v n found i x is there
