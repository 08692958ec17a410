use Rattle.csp_inference.proofs.Rowing.{OwnersLeft}
use Rattle.csp_inference.proofs.tree_numbers.owners_of.Given as goal

abbrev pub invariant-loop-count : goal.invariant-loop-count
invariant-loop-count g l = OwnersLeft l.owners.items l.datatype l.counts l.count-index
