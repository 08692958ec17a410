use Rattle.theory_checking.proofs.FineSites.{bound_fine, parameter_fine}
use Rattle.theory_checking.proofs.SingleSites.{bound_stops, declared_parameter_stops, parameter_again_stops}
use Rattle.theory_checking.proofs.names.bound_names_are_fine_or_refused.Goals as goal

pub returns-clause-bound : goal.returns-clause-bound
returns-clause-bound c = bound_fine

pub returns-clause-declared : goal.returns-clause-declared
returns-clause-declared c = λ env n h. bound_stops env n h.0 h.1

pub returns-clause-parameter : goal.returns-clause-parameter
returns-clause-parameter c = parameter_fine

pub returns-clause-declared_parameter : goal.returns-clause-declared_parameter
returns-clause-declared_parameter c = λ env n h. declared_parameter_stops env n h.0 h.1

pub returns-clause-parameter_again : goal.returns-clause-parameter_again
returns-clause-parameter_again c = parameter_again_stops
