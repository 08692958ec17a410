-- Each event so far is within the depth.
use Rattle.std.proofs.Common.{refl, arith}
use Rattle.csp_value.proofs.Walking.{one_more, one_beyond, none_beyond, told_beyond, told_within}
use Rattle.csp_events.proofs.EventMeasures.{event_depth, event_depths, event_depths_step}
use Rattle.csp_events.proofs.limits.are_events_within_depth.Goals as goal

pub loop-event-preserved : goal.loop-event-preserved
loop-event-preserved g c =
    one_more event_depths event_depth refl event_depths_step c.args.events.now c.args.most c.loop-event.event-index c.event-item.result c.loop-event-test.true c.event-item.is
    (told_within c.is_within_depth.result _ c.is_within_depth.ensures c.if-not-is_within_depth.false) c.loop-event.invariant

pub returns-then-not-is_within_depth : goal.returns-then-not-is_within_depth
returns-then-not-is_within_depth g c = (
  λ no. absurd (cc no),
  λ all. absurd (one_beyond event_depths event_depth refl event_depths_step c.args.events.now c.args.most c.loop-event.event-index c.event-item.result c.loop-event-test.true c.event-item.is
      (told_beyond c.is_within_depth.result _ c.is_within_depth.ensures c.if-not-is_within_depth.true) all),
)

pub returns : goal.returns
returns g c = (λ yes. none_beyond event_depths event_depth refl event_depths_step c.args.events.now c.args.most c.loop-event.event-index (omega arith) c.loop-event.invariant, λ all. refl)
