-- Each event in turn, or the first cause; all are sorted then.
use Rattle.std.proofs.Common.{◌≡◌, Result, Ok, Err, sym, ◌∙◌, ap, subst, inl, inr, lit<, arith}
use Rattle.std.proofs.lemmas.List.{take_all}
use Rattle.std.proofs.lemmas.Result.{err_from_is_err_and}
use Rattle.std.specs.List.{list_any}
use Rattle.std.specs.declared.cmp.Ordering.{Ordering}
use Rattle.std.specs.List.Sorted.{IsSorted}
use Rattle.theory_syntax.specs.Value as pure
use Rattle.theory_syntax.specs.Process as process
use Rattle.theory_semantics.specs.Meaning.Evaluation.{◌and_then◌}
use Rattle.theory_semantics.specs.Meaning.Events as events
use Rattle.csp_value.specs.Action.{event_of}
use Rattle.csp_value.specs.declared.action.Event.{Event}
use Rattle.csp_value.proofs.ActionOrder.{event_order, event_ordered}
use Rattle.csp_events.specs.Events.{event_expression_of, event_expressions_of}
use Rattle.csp_events.specs.Channels.{declaring}
use Rattle.csp_events.specs.declared.event_test.EventTest.{EventTest}
use Rattle.csp_expression.specs.declared.no_value.NoValue.{NoValue}
use Rattle.csp_events.specs.Testing.{IsTestOf}
use Rattle.csp_events.proofs.Enumerating.{one_further, stopped_at}
use Rattle.csp_events.proofs.Evaluating.{listed_by, test_stopped}
use Rattle.csp_events.proofs.event_test.events.Goals as goal

pub loop-event-preserved : goal.loop-event-preserved
loop-event-preserved g c =
    one_further (events.event_of (declaring c.args.types.now c.args.channels.now)) event_expression_of event_of c.args.written.now c.loop-event.event-index c.event-item.result c.loop-event.events.items c.loop-event.invariant c.loop-event-test.true c.event-item.is
    c.push.new.self.items c.in_ok-whole_event.field-0 c.in_ok-whole_event.ensures c.in_ok-push.ensures.items

pub returns-in_err-whole_event : goal.returns-in_err-whole_event
returns-in_err-whole_event g c =
    let script = declaring c.args.types.now c.args.channels.now in
    let f = events.event_of script in
    let items = c.args.written.now in
    let item = c.event-item.result in
    let all = events.event_test script (process.Enumeration (event_expressions_of items)) in
    let p = err_from_is_err_and c.from_residual.result c.from_residual.ensures.1 in
    let P : Result (EventTest g.row.A.Denot) NoValue → Type 0 = λ r. IsTestOf r all in
    subst P (sym (p.1 ∙ ap Err p.2))
    (test_stopped g.row.A.Denot (f (event_expression_of item)) all c.in_err-whole_event.field-0.0 c.in_err-whole_event.ensures
    (λ cause none. ap (λ r. r and_then λ xs. Ok (λ e. list_any (pure.event_eq e) xs)) (stopped_at f event_expression_of event_of items c.loop-event.event-index item c.loop-event.events.items c.loop-event.invariant c.loop-event-test.true c.event-item.is cause none)))

pub returns : goal.returns
returns g c =
    let script = declaring c.args.types.now c.args.channels.now in
    let all = take_all c.loop-event.event-index c.args.written.now (omega arith) in
    let order = event_order g.row.A g.A.AllocHandle g.A.AllocHandle-dict g.A.Allocator g.A.Allocator-dict g.A.Clone g.A.Clone-dict in
    let as_events : order ≡ (λ e f. pure.event_cmp (event_of e) (event_of f)) = λ i e f. event_ordered g.row.A g.A.AllocHandle g.A.AllocHandle-dict g.A.Allocator g.A.Allocator-dict g.A.Clone g.A.Clone-dict e f i in
    let sorted = c.sort_unstable.new.self in
    let P : (Event g.row.A.Denot → Event g.row.A.Denot → Ordering) → Type 0 = λ r. IsSorted r sorted.items in
    listed_by g.row.A.Denot script (event_expressions_of c.args.written.now) c.loop-event.events.items sorted (ap (λ es. events.each (events.event_of script) (event_expressions_of es)) (sym all) ∙ c.loop-event.invariant)
    c.sort_unstable.ensures.permutation (subst P as_events c.sort_unstable.ensures.sorted)

pub whole_event-requires : goal.whole_event-requires
whole_event-requires g c = elim g.met.A.AllocHandle.small [ inl e ↦ rw (e.0, e.1) (lit< tt) | inr e ↦ rw (e.0, e.1) (lit< tt) ]

pub drop-events-requires-room-T-Destruct : goal.drop-events-requires-room-T-Destruct
drop-events-requires-room-T-Destruct g c κs within = elim g.met.A.AllocHandle.small [ inl e ↦ rw (e.0, e.1) (lit< tt) | inr e ↦ rw (e.0, e.1) (lit< tt) ]

pub from_residual-requires-in_err-push-room-F-From : goal.from_residual-requires-in_err-push-room-F-From
from_residual-requires-in_err-push-room-F-From g c κs within = elim g.met.A.AllocHandle.small [ inl e ↦ rw (e.0, e.1) (lit< tt) | inr e ↦ rw (e.0, e.1) (lit< tt) ]

pub drop-events-requires-in_err-push-room-T-Destruct : goal.drop-events-requires-in_err-push-room-T-Destruct
drop-events-requires-in_err-push-room-T-Destruct g c κs within = elim g.met.A.AllocHandle.small [ inl e ↦ rw (e.0, e.1) (lit< tt) | inr e ↦ rw (e.0, e.1) (lit< tt) ]

pub sort_unstable-requires-room-T-Ord : goal.sort_unstable-requires-room-T-Ord
sort_unstable-requires-room-T-Ord g c κs within = elim g.met.A.AllocHandle.small [ inl e ↦ rw (e.0, e.1) (lit< tt) | inr e ↦ rw (e.0, e.1) (lit< tt) ]

pub sort_unstable-requires-room-T-Eq : goal.sort_unstable-requires-room-T-Eq
sort_unstable-requires-room-T-Eq g c κs within = elim g.met.A.AllocHandle.small [ inl e ↦ rw (e.0, e.1) (lit< tt) | inr e ↦ rw (e.0, e.1) (lit< tt) ]

pub sort_unstable-requires-room-T-PartialEq : goal.sort_unstable-requires-room-T-PartialEq
sort_unstable-requires-room-T-PartialEq g c κs within = elim g.met.A.AllocHandle.small [ inl e ↦ rw (e.0, e.1) (lit< tt) | inr e ↦ rw (e.0, e.1) (lit< tt) ]

pub sort_unstable-requires-room-T-PartialOrd : goal.sort_unstable-requires-room-T-PartialOrd
sort_unstable-requires-room-T-PartialOrd g c κs within = elim g.met.A.AllocHandle.small [ inl e ↦ rw (e.0, e.1) (lit< tt) | inr e ↦ rw (e.0, e.1) (lit< tt) ]
