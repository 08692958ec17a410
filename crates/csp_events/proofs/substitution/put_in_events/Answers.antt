-- Values are put into one more event.
use Rattle.std.proofs.Common.{◌+◌, take, sym, ◌∙◌}
use Rattle.theory_semantics.specs.Meaning.Substitution.{put_event}
use Rattle.csp_expression.specs.Bindings.{bindings_of}
use Rattle.csp_events.specs.Events.{event_expression_of}
use Rattle.csp_value.proofs.Copying.{map_push}
use Rattle.csp_events.proofs.EventPutting.{put_each_event}
use Rattle.csp_events.proofs.substitution.put_in_events.Goals as goal

pub loop-event-preserved : goal.loop-event-preserved
loop-event-preserved g c =
    let bs = bindings_of c.args.bindings.now in
    let so_far = c.loop-event.invariant ∙ put_each_event bs (take c.loop-event.event-index c.args.events.now) in
    map_push event_expression_of (λ x. put_event bs (event_expression_of x)) c.loop-event.all.items c.push.new.self.items c.in_ok-put_in.field-0 c.args.events.now c.loop-event.event-index c.event-item.result
    so_far c.loop-event-test.true c.event-item.is c.in_ok-put_in.ensures c.in_ok-push.ensures.items
    ∙ sym (put_each_event bs (take (c.loop-event.event-index + 1) c.args.events.now))
