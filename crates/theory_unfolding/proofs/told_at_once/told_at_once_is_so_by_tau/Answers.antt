use Rattle.theory_unfolding.proofs.Telling.{holds_by_tau, fails_by_tau, fault_by_tau, large_by_tau}
use Rattle.theory_unfolding.proofs.told_at_once.told_at_once_is_so_by_tau.Goals as goal

pub returns-clause-holds : goal.returns-clause-holds
returns-clause-holds c = holds_by_tau

pub returns-clause-fails : goal.returns-clause-fails
returns-clause-fails c = λ script a s i is. fails_by_tau script a s is i

pub returns-clause-stuck : goal.returns-clause-stuck
returns-clause-stuck c = λ script a s is. (fault_by_tau script a s is, large_by_tau script a s is)
