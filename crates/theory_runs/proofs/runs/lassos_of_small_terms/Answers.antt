use Rattle.theory_runs.proofs.SmallLassos.{chooses_once, may_choose, unfolds_to_itself}
use Rattle.theory_runs.proofs.runs.lassos_of_small_terms.Goals as goal

pub returns-clause-unfolds : goal.returns-clause-unfolds
returns-clause-unfolds c = unfolds_to_itself

pub returns-clause-tau : goal.returns-clause-tau
returns-clause-tau c = may_choose

pub returns-clause-none : goal.returns-clause-none
returns-clause-none c = chooses_once
