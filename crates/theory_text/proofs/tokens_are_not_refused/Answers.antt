use Rattle.theory_text.proofs.Division.{tokens_not_refused}
use Rattle.theory_text.proofs.tokens_are_not_refused.Goals as goal

pub returns : goal.returns
returns c = tokens_not_refused
