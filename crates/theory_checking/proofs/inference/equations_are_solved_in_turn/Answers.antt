use Rattle.theory_checking.proofs.Unifying.{nothing_done, solved_then, unsolved_then, unsolved_first}
use Rattle.std.proofs.Common.{[]}
use Rattle.theory_checking.proofs.inference.equations_are_solved_in_turn.Goals as goal

pub returns-clause-nothing : goal.returns-clause-nothing
returns-clause-nothing c = λ s resolved. nothing_done s [] resolved (λ a sat. tt)

pub returns-clause-both : goal.returns-clause-both
returns-clause-both c = λ s t u es fs g h. solved_then s t u es fs g h

pub returns-clause-second : goal.returns-clause-second
returns-clause-second c = λ s t es fs g h. unsolved_then s t es fs g h

pub returns-clause-first : goal.returns-clause-first
returns-clause-first c = λ s es fs h. unsolved_first s es fs h
