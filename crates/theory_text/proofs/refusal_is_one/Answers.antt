use Rattle.theory_text.proofs.Refusing.{refusal_same}
use Rattle.theory_text.proofs.refusal_is_one.Goals as goal

pub returns : goal.returns
returns c = refusal_same
