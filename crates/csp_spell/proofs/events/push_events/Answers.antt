-- The spelling of one more of them.
use Rattle.theory_spelling.specs.Spelling.{event_spelling}
use Rattle.theory_spelling.specs.Packable.{IsPackableEvent}
use Rattle.csp_events.specs.Events.{event_expression_of}
use Rattle.theory_spelling.specs.Ranges.{IsInRangeEvent}
use Rattle.csp_spell.proofs.Pushing.{put_none, put_one, put_all, item_of, gone_one, gone_all}
use Rattle.csp_spell.proofs.events.push_events.Goals as goal

pub push_event-requires : goal.push_event-requires
push_event-requires g c =
    item_of IsPackableEvent event_expression_of c.args.events.now c.loop-event.event-index c.event-item.result c.loop-event-test.true c.event-item.is c.requires.1

pub loop-event-preserved : goal.loop-event-preserved
loop-event-preserved g c = (
  put_one event_spelling event_expression_of c.args.events.now c.args.bytes.now.items c.loop-event.bytes.items c.push_event.new.bytes.items c.loop-event.event-index c.event-item.result c.loop-event-test.true c.event-item.is c.in_ok-push_event.ensures.spelled c.loop-event.invariant.0,
  gone_one IsInRangeEvent event_expression_of c.args.events.now c.loop-event.event-index c.event-item.result c.loop-event-test.true c.event-item.is c.in_ok-push_event.ensures.range c.loop-event.invariant.1,
)

pub loop-event-init : goal.loop-event-init
loop-event-init g c = (put_none event_spelling event_expression_of c.args.events.now c.args.bytes.now.items c.push_length.new.bytes.items c.in_ok-push_length.ensures, tt)

pub returns : goal.returns
returns g c = record {
  spelled = put_all event_spelling event_expression_of c.args.events.now c.args.bytes.now.items c.loop-event.bytes.items c.loop-event.event-index c.loop-event-test.false c.loop-event.invariant.0;
  range = gone_all IsInRangeEvent event_expression_of c.args.events.now c.loop-event.event-index c.loop-event-test.false c.loop-event.invariant.1;
}
