use Rattle.theory_unfolding.proofs.Outcomes.{words_agree}
use Rattle.theory_unfolding.proofs.told_at_once.outcomes_have_one_word.Goals as goal

pub returns : goal.returns
returns c = words_agree
