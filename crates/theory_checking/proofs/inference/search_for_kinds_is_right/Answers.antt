use Rattle.std.proofs.Common.{[], ◌∷◌}
use Rattle.theory_checking.specs.Inference.State.{unify, solve}
use Rattle.theory_checking.proofs.Unifying.{is_solved, is_unsolved, made_one, solve_right}
use Rattle.theory_checking.proofs.inference.search_for_kinds_is_right.Goals as goal

pub returns-clause-one : goal.returns-clause-one
returns-clause-one c = λ s t c d resolved e. is_solved s ((c, d) ∷ []) (unify s c d) t (made_one s resolved c d) e

pub returns-clause-none : goal.returns-clause-none
returns-clause-none c = λ s c d resolved e. is_unsolved s ((c, d) ∷ []) (unify s c d) (made_one s resolved c d) e

pub returns-clause-solved : goal.returns-clause-solved
returns-clause-solved c = λ s t es resolved e. is_solved s es (solve s es) t (solve_right s es resolved) e

pub returns-clause-unsolved : goal.returns-clause-unsolved
returns-clause-unsolved c = λ s es resolved e. is_unsolved s es (solve s es) (solve_right s es resolved) e
