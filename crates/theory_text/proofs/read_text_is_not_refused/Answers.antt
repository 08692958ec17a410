use Rattle.theory_text.proofs.GrammarRefusing.{parsed_not_refused}
use Rattle.theory_text.proofs.ReadTexts.{read_not_refused}
use Rattle.theory_text.proofs.read_text_is_not_refused.Goals as goal

pub returns-clause-tokens : goal.returns-clause-tokens
returns-clause-tokens c = parsed_not_refused

pub returns-clause-text : goal.returns-clause-text
returns-clause-text c = read_not_refused
