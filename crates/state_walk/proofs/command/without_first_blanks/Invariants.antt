-- What is left has the same beginning without blanks.
use Rattle.std.proofs.Common.{◌≡◌, length}
use Rattle.theory_walk.specs.Commands.{without_blanks}
use Rattle.state_walk.proofs.command.without_first_blanks.Given as goal

abbrev pub invariant-loop-byte : goal.invariant-loop-byte
invariant-loop-byte l = without_blanks l.rest ≡ without_blanks l.text

abbrev pub decreases-loop-byte : goal.decreases-loop-byte
decreases-loop-byte l = length l.rest
