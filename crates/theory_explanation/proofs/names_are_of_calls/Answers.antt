use Rattle.theory_explanation.proofs.PartNames.{call_there}
use Rattle.theory_explanation.proofs.names_are_of_calls.Goals as goal

pub returns : goal.returns
returns c = call_there
