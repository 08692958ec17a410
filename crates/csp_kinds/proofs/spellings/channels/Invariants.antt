-- The channels so far have the spellings and the sets of the pairs so far.
use Rattle.csp_kinds.proofs.Pairing.{ArePaired}
use Rattle.csp_kinds.proofs.spellings.channels.Given as goal

abbrev pub invariant-loop-name : goal.invariant-loop-name
invariant-loop-name g l = ArePaired l.yielded l.channels.items
