use Rattle.theory_checking.proofs.AskingSets.{fit_fewer_clauses}
use Rattle.theory_checking.proofs.FitsAbove.{fit_above, fit_fewer}
use Rattle.theory_checking.proofs.kinds_fit_from_above.Goals as goal

pub returns-clause-above : goal.returns-clause-above
returns-clause-above c = fit_above

pub returns-clause-fields : goal.returns-clause-fields
returns-clause-fields c = fit_fewer

pub returns-clause-clauses : goal.returns-clause-clauses
returns-clause-clauses c = λ types above name before rest constructor fields more fit. fit_fewer_clauses types above name before rest constructor fields more fit
