use Rattle.theory_text.proofs.ReadTexts.{reading_refusal_same}
use Rattle.theory_text.proofs.reading_refusal_is_one.Goals as goal

pub returns : goal.returns
returns c = reading_refusal_same
