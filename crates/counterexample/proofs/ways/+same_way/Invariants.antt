use Rattle.std.proofs.Common.{length}
use Rattle.counterexample.proofs.ways.+same_way.Given as goal

abbrev pub decreases-same_way : goal.decreases-same_way
decreases-same_way l = length l.one.now
