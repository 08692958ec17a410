-- What is named among the moves so far.
use Rattle.std.proofs.Common.{take}
use Rattle.theory_walk.specs.Answers.{doing}
use Rattle.csp_print.specs.Names.{names_of}
use Rattle.state_walk.specs.Naming.{IsNamed}
use Rattle.state_walk.specs.Walks.{moves_listed}
use Rattle.state_walk.proofs.naming.doing.Given as goal

abbrev pub invariant-loop-place : goal.invariant-loop-place
invariant-loop-place g l = IsNamed (moves_listed l.moves) l.found (doing (names_of l.names) (moves_listed (take l.place l.moves)) l.text)
