use Rattle.theory_reader.proofs.Scripts.{script_read}
use Rattle.theory_reader.proofs.read_scripts_are_scripts.Goals as goal

pub returns : goal.returns
returns g = script_read
