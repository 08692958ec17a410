use Rattle.theory_checking.proofs.AskingSets.{some_first_fit, no_first_fit, all_asked}
use Rattle.theory_checking.proofs.inference.fitting_kinds_of_first_sets_are_found.Goals as goal

pub returns-clause-some : goal.returns-clause-some
returns-clause-some c = λ types raw so_far es h solved. some_first_fit types raw so_far h.0 h.1 h.2 es h.3 h.4 solved.0 solved.1

pub returns-clause-none : goal.returns-clause-none
returns-clause-none c = λ types raw so_far es h none. no_first_fit types raw so_far h.1.0 h.1.1 h.1.2 es h.1.3 h.1.4 h.0 none

pub returns-clause-all : goal.returns-clause-all
returns-clause-all c = λ types raw o n m es numbers sets. all_asked types raw o n m es numbers sets
