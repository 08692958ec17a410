use Rattle.theory_checking.proofs.CheckedTexts.{text_not_unchecked}
use Rattle.theory_checking.proofs.unrefused_text_is_not_unchecked.Goals as goal

pub returns : goal.returns
returns c = text_not_unchecked
