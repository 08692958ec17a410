use Rattle.theory_checking.proofs.AskingItems.{some_sets_fit, no_sets_fit}
use Rattle.theory_checking.proofs.inference.fitting_kinds_of_sets_are_found.Goals as goal

pub returns-clause-some : goal.returns-clause-some
returns-clause-some c = λ types raw es h solved. some_sets_fit types raw h.0 h.1 h.2 es h.3 h.4 solved.0 solved.1

pub returns-clause-none : goal.returns-clause-none
returns-clause-none c = λ types raw es h none. no_sets_fit types raw h.0 h.1 h.2 es h.3 h.4 none
