use Rattle.std.proofs.Common.{length}
use Rattle.csp_lex.specs.Cursors.{left_of}
use Rattle.csp_lex.proofs.Dividing.{DividedSoFar}
use Rattle.csp_lex.proofs.divisions.divide.Given as goal

abbrev pub invariant-loop-fault : goal.invariant-loop-fault
invariant-loop-fault g l = DividedSoFar l.text l.tokens.items l.cursor

abbrev pub decreases-loop-fault : goal.decreases-loop-fault
decreases-loop-fault g l = length (left_of l.cursor)
