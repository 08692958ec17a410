use Rattle.theory_spelling.proofs.Laws.{term_takes}
use Rattle.theory_spelling.proofs.read_is_spelled_so.Goals as goal

pub returns : goal.returns
returns c = term_takes
