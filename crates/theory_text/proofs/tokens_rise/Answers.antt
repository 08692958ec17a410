use Rattle.theory_text.proofs.Refusing.{tokens_rise, tokens_in_range}
use Rattle.theory_text.proofs.tokens_rise.Goals as goal

pub returns-clause-spans : goal.returns-clause-spans
returns-clause-spans c = tokens_rise

pub returns-clause-numbers : goal.returns-clause-numbers
returns-clause-numbers c = tokens_in_range
