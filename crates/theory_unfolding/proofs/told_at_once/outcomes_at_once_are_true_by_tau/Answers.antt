use Rattle.theory_unfolding.proofs.Outcomes.{true_by_tau}
use Rattle.theory_unfolding.proofs.told_at_once.outcomes_at_once_are_true_by_tau.Goals as goal

pub returns : goal.returns
returns c = λ script a b bounds o is right. true_by_tau script a b is bounds o right.answer right.true_of
