use Rattle.theory_explanation.proofs.Sources.{divergence_told}
use Rattle.theory_explanation.proofs.counterexamples_tell_divergence.Goals as goal

pub returns : goal.returns
returns c = λ script a v n found is diverges. divergence_told script a v n found is diverges
