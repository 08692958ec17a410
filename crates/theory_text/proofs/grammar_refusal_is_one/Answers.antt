use Rattle.theory_text.proofs.GrammarRefusing.{grammar_refusal_same}
use Rattle.theory_text.proofs.grammar_refusal_is_one.Goals as goal

pub returns : goal.returns
returns c = grammar_refusal_same
