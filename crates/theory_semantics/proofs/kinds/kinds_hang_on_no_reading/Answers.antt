use Rattle.theory_semantics.proofs.ReadingKinds.{checked_read, term_read}
use Rattle.theory_semantics.proofs.kinds.kinds_hang_on_no_reading.Goals as goal

pub returns-clause-scripts : goal.returns-clause-scripts
returns-clause-scripts c = λ u script h. checked_read u script h

pub returns-clause-terms : goal.returns-clause-terms
returns-clause-terms c = λ u script t h. term_read u script t h
