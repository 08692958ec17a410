-- What is left has the same end without blanks.
use Rattle.std.proofs.Common.{◌≡◌, length}
use Rattle.state_walk.proofs.Blanks.{without_last}
use Rattle.state_walk.proofs.command.without_last_blanks.Given as goal

abbrev pub invariant-loop-byte : goal.invariant-loop-byte
invariant-loop-byte l = without_last l.rest ≡ without_last l.text

abbrev pub decreases-loop-byte : goal.decreases-loop-byte
decreases-loop-byte l = length l.rest
