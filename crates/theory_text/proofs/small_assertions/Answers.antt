use Rattle.std.proofs.Common.{refl}
use Rattle.theory_text.proofs.Asserting.{plain_read, joined_read, spaced_read, divergence_read, negated_read, not_negates}
use Rattle.theory_text.proofs.small_assertions.Goals as goal

pub returns-clause-plain : goal.returns-clause-plain
returns-clause-plain c = plain_read

pub returns-clause-joined : goal.returns-clause-joined
returns-clause-joined c = joined_read

pub returns-clause-spaced : goal.returns-clause-spaced
returns-clause-spaced c = spaced_read

pub returns-clause-divergence : goal.returns-clause-divergence
returns-clause-divergence c = divergence_read

pub returns-clause-negated : goal.returns-clause-negated
returns-clause-negated c = negated_read

pub returns-clause-negates : goal.returns-clause-negates
returns-clause-negates c = not_negates

pub returns-clause-closed : goal.returns-clause-closed
returns-clause-closed c = refl
