use Rattle.theory_text.proofs.Division.{tokens_same}
use Rattle.theory_text.proofs.tokens_are_one.Goals as goal

pub returns : goal.returns
returns c = tokens_same
