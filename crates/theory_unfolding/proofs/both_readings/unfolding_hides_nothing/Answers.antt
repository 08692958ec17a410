use Rattle.std.proofs.Common.{◌∙◌, arith}
use Rattle.theory_unfolding.proofs.Before.{fits_before, cause_before}
use Rattle.theory_unfolding.proofs.Readings.{same_cause}
use Rattle.theory_unfolding.proofs.Running.{not_stuck_before}
use Rattle.theory_syntax.specs.Process.{ByTau, AtOnce}
use Rattle.theory_unfolding.proofs.both_readings.unfolding_hides_nothing.Goals as goal

pub returns-clause-limits : goal.returns-clause-limits
returns-clause-limits c = λ s t v d. fits_before s d.1

pub returns-clause-causes : goal.returns-clause-causes
returns-clause-causes c = λ s t v d none. cause_before s d.1 (same_cause s ByTau AtOnce v ∙ none)

pub returns-clause-stuck : goal.returns-clause-stuck
returns-clause-stuck c = λ s t v d. not_stuck_before s (omega arith) d.1
