use Rattle.theory_semantics.proofs.Stepping.{exact}
use Rattle.theory_semantics.proofs.steps_are_computed.Goals as goal

pub returns : goal.returns
returns c = exact
