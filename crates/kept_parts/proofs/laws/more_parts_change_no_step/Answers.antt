use Rattle.kept_parts.proofs.Stepping.{same_steps}
use Rattle.kept_parts.proofs.laws.more_parts_change_no_step.Goals as goal

pub returns : goal.returns
returns c = λ es ps more ss stays among. same_steps es ps more stays ss among
