use Rattle.theory_semantics.proofs.Refining.{no_property}
use Rattle.theory_semantics.proofs.violated_does_not_hold.Goals as goal

pub returns : goal.returns
returns c = no_property
