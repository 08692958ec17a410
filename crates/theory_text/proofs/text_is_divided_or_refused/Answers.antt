use Rattle.theory_text.proofs.Deciding.{text_decided}
use Rattle.theory_text.proofs.text_is_divided_or_refused.Goals as goal

pub returns : goal.returns
returns c = text_decided
