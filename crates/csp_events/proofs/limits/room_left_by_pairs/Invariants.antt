use Rattle.csp_value.proofs.Walking.{Left}
use Rattle.csp_events.proofs.EventMeasures.{pair_sizes}
use Rattle.csp_events.proofs.limits.room_left_by_pairs.Given as goal

abbrev pub invariant-loop-pair : goal.invariant-loop-pair
invariant-loop-pair g l = Left pair_sizes l.pairs l.room l.pair-index l.rest
