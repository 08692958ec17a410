use Rattle.theory_checking.proofs.AskingSets.{beginning_above, beginning_in_fields, beginning_in_clauses}
use Rattle.theory_checking.proofs.inference.first_sets_are_a_beginning.Goals as goal

pub returns-clause-above : goal.returns-clause-above
returns-clause-above c = λ so_far more. beginning_above so_far more

pub returns-clause-fields : goal.returns-clause-fields
returns-clause-fields c = λ above below names ds rest. beginning_in_fields above names ds rest below

pub returns-clause-clauses : goal.returns-clause-clauses
returns-clause-clauses c = λ above below name before rest constructor fields more. beginning_in_clauses above name before rest constructor fields more below
