use Rattle.std.proofs.Common.{map, refl}
use Rattle.theory_checking.specs.Resolving as resolving
use Rattle.theory_checking.specs.Sites.{in_event}
use Rattle.csp_parse.specs.Events.{event_of}
use Rattle.csp_events.specs.Events.{event_expression_of}
use Rattle.csp_names.specs.declared.refusals.Refused.TheVariants as refused
use Rattle.csp_names.specs.Walks.{ResolvesEvents}
use Rattle.csp_names.proofs.Resolves.{all_so_far, one_more_so_far, one_stops_all, room_stops_all}
use Rattle.csp_names.proofs.Walking.{handed_on}
use Rattle.csp_names.proofs.scope.Scope.resolve_events.Goals as goal

pub returns-in_err-one : goal.returns-in_err-one
returns-in_err-one g c =
    handed_on (ResolvesEvents c.args.self.now c.args.bound.now (map event_of c.args.events.now)) c.from_residual.result c.in_err-one.field-0.0 c.from_residual.ensures
    (one_stops_all c.args.self.now c.args.bound.now event_of in_event resolving.event_of event_expression_of c.args.events.now g.row.A.Denot c.loop-event.event-index c.loop-event.resolved.items c.event-item.result c.in_err-one.field-0.0 c.loop-event-test.true c.event-item.is c.loop-event.invariant c.in_err-one.ensures)

pub returns-in_err-push : goal.returns-in_err-push
returns-in_err-push g c =
    handed_on (ResolvesEvents c.args.self.now c.args.bound.now (map event_of c.args.events.now)) c.from_residual-in_err-push.result refused.Memory c.from_residual-in_err-push.ensures (room_stops_all c.args.self.now c.args.bound.now event_of in_event resolving.event_of (event_expression_of {A = g.row.A.Denot}) c.args.events.now g.row.A.Denot refused.Memory refl)

pub loop-event-preserved : goal.loop-event-preserved
loop-event-preserved g c =
    one_more_so_far c.args.self.now c.args.bound.now event_of in_event resolving.event_of event_expression_of c.args.events.now c.loop-event.event-index c.loop-event.resolved.items c.push.new.self.items c.event-item.result c.in_ok-one.one
    c.loop-event-test.true c.event-item.is c.loop-event.invariant c.in_ok-one.ensures c.in_ok-push.ensures.items

pub returns : goal.returns
returns g c = all_so_far c.args.self.now c.args.bound.now event_of in_event resolving.event_of event_expression_of c.args.events.now c.loop-event.event-index c.loop-event.resolved c.loop-event-test.false c.loop-event.invariant
