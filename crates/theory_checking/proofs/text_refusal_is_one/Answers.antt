use Rattle.theory_checking.proofs.CheckedTexts.{text_refusal_same}
use Rattle.theory_checking.proofs.text_refusal_is_one.Goals as goal

pub returns : goal.returns
returns c = text_refusal_same
