use Rattle.theory_reader.proofs.Scripts.{script_refused}
use Rattle.theory_reader.proofs.refusals_are_of_the_tokens.Goals as goal

pub returns : goal.returns
returns g = script_refused
