use Rattle.std.proofs.Common.{refl}
use Rattle.std.specs.Fmt.{digits}
use Rattle.theory_explanation.proofs.texts_of_counterexamples.Goals as goal

pub returns : goal.returns
unfolding digits
returns c = refl
