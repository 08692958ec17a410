use Rattle.std.proofs.Common.{◌≡◌, ◌++◌, ◌∷◌, []}
use Rattle.std.proofs.lemmas.Result.{err_from_is_err_and}
use Rattle.std.proofs.lemmas.List.{map_push}
use Rattle.csp_events.specs.Events.{event_expression_of, event_expressions_of}
use Rattle.theory_spelling.specs.Reading.{items_at, event_at}
use Rattle.csp_spell.proofs.Repeating.{goes_on, ends, is_done}
use Rattle.csp_spell.proofs.read_events.read_each_event.Goals as goal

pub returns-in_err-event : goal.returns-in_err-event
returns-in_err-event g c =
    let read = event_at c.args.depth in
    let e = err_from_is_err_and c.from_residual.result c.from_residual.ensures.1 in
    rw (e.1, e.2) (ends read (items_at read c.args.count c.args.bytes.now) c.in_err-event.field-0.0 (event_expressions_of c.loop.events.items) c.args.count c.loop.counter c.loop.rest.now c.loop-test.true c.in_err-event.ensures c.loop.invariant)

pub loop-preserved : goal.loop-preserved
loop-preserved g c =
    let read = event_at c.args.depth in
    let x = c.in_ok-event.event in
    let e : event_expressions_of c.push.new.self.items ≡ event_expressions_of c.loop.events.items ++ event_expression_of x ∷ [] = rw c.in_ok-push.ensures.items (map_push _ c.loop.events.items x) in
    rw e (goes_on read (items_at read c.args.count c.args.bytes.now) (event_expressions_of c.loop.events.items) c.args.count c.loop.counter c.loop.rest.now (event_expression_of x) c.in_ok-event.after.now c.loop-test.true c.in_ok-event.ensures c.loop.invariant)

pub returns : goal.returns
returns g c =
    let read = event_at c.args.depth in
    is_done read (items_at read c.args.count c.args.bytes.now) (event_expressions_of c.loop.events.items) c.args.count c.loop.counter c.loop.rest.now c.loop-test.false c.loop.invariant
