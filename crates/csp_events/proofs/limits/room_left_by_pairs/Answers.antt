-- What one more pair leaves of the room.
use Rattle.std.proofs.Common.{refl}
use Rattle.csp_value.proofs.Walking.{one_less, one_too_many}
use Rattle.csp_events.proofs.EventMeasures.{pair_size, pair_sizes, pair_sizes_step}
use Rattle.csp_events.proofs.limits.room_left_by_pairs.Goals as goal

pub returns-in_err-rest : goal.returns-in_err-rest
returns-in_err-rest g c =
    rw c.from_residual.ensures
    (one_too_many pair_sizes pair_size refl pair_sizes_step c.args.pairs.now c.args.room c.loop-pair.pair-index c.loop-pair.rest c.pair-item.result c.loop-pair-test.true c.pair-item.is c.loop-pair.invariant c.in_err-rest.ensures)

pub loop-pair-preserved : goal.loop-pair-preserved
loop-pair-preserved g c =
    one_less pair_sizes pair_size refl pair_sizes_step c.args.pairs.now c.args.room c.loop-pair.pair-index c.loop-pair.rest c.in_ok-rest.rest c.pair-item.result c.loop-pair-test.true c.pair-item.is c.loop-pair.invariant
    c.in_ok-rest.ensures.0 c.in_ok-rest.ensures.1
