-- What one more event leaves of the room.
use Rattle.std.proofs.Common.{refl}
use Rattle.csp_value.proofs.Walking.{one_less, one_too_many}
use Rattle.csp_events.proofs.EventMeasures.{event_size, event_sizes, event_sizes_step}
use Rattle.csp_events.proofs.limits.room_left_by_events.Goals as goal

pub returns-in_err-rest : goal.returns-in_err-rest
returns-in_err-rest g c =
    rw c.from_residual.ensures
    (one_too_many event_sizes event_size refl event_sizes_step c.args.events.now c.args.room c.loop-event.event-index c.loop-event.rest c.event-item.result c.loop-event-test.true c.event-item.is c.loop-event.invariant c.in_err-rest.ensures)

pub loop-event-preserved : goal.loop-event-preserved
loop-event-preserved g c =
    one_less event_sizes event_size refl event_sizes_step c.args.events.now c.args.room c.loop-event.event-index c.loop-event.rest c.in_ok-rest.rest c.event-item.result c.loop-event-test.true c.event-item.is c.loop-event.invariant
    c.in_ok-rest.ensures.0 c.in_ok-rest.ensures.1
