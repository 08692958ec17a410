use Rattle.csp_value.proofs.Walking.{Decides}
use Rattle.csp_events.proofs.EventMeasures.{pair_depths}
use Rattle.csp_events.proofs.limits.are_pairs_within_depth.Given as goal

abbrev pub invariant-loop-pair : goal.invariant-loop-pair
invariant-loop-pair g l = Decides pair_depths l.pairs l.most l.pair-index
