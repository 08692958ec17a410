use Rattle.theory_semantics.proofs.Sizes.{settled_is_no_smaller, fits_before_settling}
use Rattle.theory_semantics.proofs.settled_terms_are_no_smaller.Goals as goal

pub returns-clause-sizes : goal.returns-clause-sizes
returns-clause-sizes c = λ script p fit. (settled_is_no_smaller script p fit).sizes

pub returns-clause-depths : goal.returns-clause-depths
returns-clause-depths c = λ script p fit. (settled_is_no_smaller script p fit).depths

pub returns-clause-limits : goal.returns-clause-limits
returns-clause-limits c = λ script p fit. fits_before_settling script p fit
