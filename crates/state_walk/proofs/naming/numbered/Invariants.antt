-- None of the moves so far has that number.
use Rattle.std.proofs.Common.{◌≡◌, ◌+◌, drop}
use Rattle.theory_walk.specs.Answers.{numbered}
use Rattle.state_walk.specs.Walks.{moves_listed}
use Rattle.state_walk.proofs.naming.numbered.Given as goal

abbrev pub invariant-loop-place : goal.invariant-loop-place
invariant-loop-place g l = numbered (l.place + 1) (moves_listed (drop l.place l.moves)) l.text ≡ numbered 1 (moves_listed l.moves) l.text
