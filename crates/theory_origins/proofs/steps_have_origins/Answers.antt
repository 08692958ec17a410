use Rattle.std.proofs.Common.{refl}
use Rattle.theory_origins.specs.Origin.{origin}
use Rattle.theory_origins.proofs.steps_have_origins.Goals as goal

pub returns : goal.returns
returns c = λ script p x t step. (origin step, (step, refl))
