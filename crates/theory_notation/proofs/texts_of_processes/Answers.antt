use Rattle.std.proofs.Common.{refl}
use Rattle.std.specs.Fmt.{digits}
use Rattle.theory_notation.proofs.texts_of_processes.Goals as goal

pub returns-clause-behind : goal.returns-clause-behind
unfolding digits
returns-clause-behind c = refl
