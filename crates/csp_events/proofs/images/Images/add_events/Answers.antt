-- Both events are written whole, or that is the cause.
use Rattle.std.proofs.Common.{inl, inr, lit<, Result, Err, sym, ◌∙◌, ap, subst}
use Rattle.std.proofs.lemmas.Result.{err_from_is_err_and}
use Rattle.theory_semantics.specs.Meaning.Events as events
use Rattle.csp_value.specs.Action.{event_of}
use Rattle.csp_events.specs.Channels.{declaring}
use Rattle.csp_events.specs.Events.{event_expression_of}
use Rattle.csp_expression.specs.declared.no_value.NoValue.{NoValue}
use Rattle.csp_events.specs.Imaging.{MakesMore}
use Rattle.csp_events.proofs.Naming.{events_named, no_first_event, no_second_event, stopped_at_event}
use Rattle.csp_events.proofs.images.Images.add_events.Goals as goal

pub whole_event-requires : goal.whole_event-requires
whole_event-requires g c = elim g.met.A.AllocHandle.small [ inl e ↦ rw (e.0, e.1) (lit< tt) | inr e ↦ rw (e.0, e.1) (lit< tt) ]

pub whole_event-requires-2 : goal.whole_event-requires-2
whole_event-requires-2 g c = elim g.met.A.AllocHandle.small [ inl e ↦ rw (e.0, e.1) (lit< tt) | inr e ↦ rw (e.0, e.1) (lit< tt) ]

pub from_residual-requires-in_err-push-room-F-From : goal.from_residual-requires-in_err-push-room-F-From
from_residual-requires-in_err-push-room-F-From g c κs within = elim g.met.A.AllocHandle.small [ inl e ↦ rw (e.0, e.1) (lit< tt) | inr e ↦ rw (e.0, e.1) (lit< tt) ]

pub from_residual-requires-in_err-push-room-F-From-2 : goal.from_residual-requires-in_err-push-room-F-From-2
from_residual-requires-in_err-push-room-F-From-2 g c κs within = elim g.met.A.AllocHandle.small [ inl e ↦ rw (e.0, e.1) (lit< tt) | inr e ↦ rw (e.0, e.1) (lit< tt) ]

pub returns-in_err-from : goal.returns-in_err-from
returns-in_err-from g c =
    let s = declaring c.args.types.now c.args.channels.now in
    let from = event_expression_of c.args.pair.now.from in
    let to = event_expression_of c.args.pair.now.to in
    let all = events.event_images s from to in
    let p = err_from_is_err_and c.from_residual.result c.from_residual.ensures.1 in
    let P : Result Unit NoValue → Type 0 = λ r. MakesMore c.args.self.now all r c.args.self.now in
    subst P (sym (p.1 ∙ ap Err p.2))
    (stopped_at_event g.row.A.Denot c.args.self.now c.args.self.now all (events.event_of s from) c.in_err-from.field-0.0 c.in_err-from.ensures (λ cause none. no_first_event s from to cause none))

pub returns-in_err-to : goal.returns-in_err-to
returns-in_err-to g c =
    let s = declaring c.args.types.now c.args.channels.now in
    let from = event_expression_of c.args.pair.now.from in
    let to = event_expression_of c.args.pair.now.to in
    let all = events.event_images s from to in
    let p = err_from_is_err_and c.from_residual-in_err-to.result c.from_residual-in_err-to.ensures.1 in
    let P : Result Unit NoValue → Type 0 = λ r. MakesMore c.args.self.now all r c.args.self.now in
    subst P (sym (p.1 ∙ ap Err p.2))
    (stopped_at_event g.row.A.Denot c.args.self.now c.args.self.now all (events.event_of s to) c.in_err-to.field-0.0 c.in_err-to.ensures (λ cause none. no_second_event s from to cause (event_of c.in_ok-from.from) c.in_ok-from.ensures none))

pub returns : goal.returns
returns g c =
    events_named g.row.A.Denot (declaring c.args.types.now c.args.channels.now) c.args.self.now (event_expression_of c.args.pair.now.from) (event_expression_of c.args.pair.now.to) c.in_ok-from.from c.in_ok-to.to c.push.new.self c.in_ok-from.ensures c.in_ok-to.ensures c.in_ok-push.ensures.items
