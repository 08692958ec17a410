use Rattle.std.proofs.Common.{List, ◌++◌, drop, ap, ◌∙◌, sym, ◌≡◌, ◌+◌, ◌∷◌, suc, add-one, drop-cons}
use Rattle.std.proofs.lemmas.List.{drop_all}
use Rattle.std.specs.Prelude.{codes}
use Rattle.std.specs.String.{string_bytes}
use Rattle.csp_events.specs.declared.event_expression.EventExpression.{EventExpression}
use Rattle.csp_events.specs.Events.{event_expression_of, event_expressions_of}
use Rattle.theory_notation.specs.EventSets.{event_text, events_behind}
use Rattle.csp_print.specs.Names.{names_of}
use Rattle.csp_print.proofs.Writing.{comes_to_end, goes_on}
use Rattle.csp_print.proofs.event_sets.push_events_behind.Goals as goal

pub loop-event-preserved : goal.loop-event-preserved
loop-event-preserved g c =
    let events = c.args.events.now in
    let i = c.loop-event.event-index in
    let names = names_of c.args.names.now in
    let texts = λ (xs : List (EventExpression g.row.A.Denot)). events_behind names (event_expressions_of xs) in
    let first : drop i events ≡ c.event-item.result ∷ drop (i + 1) events =
    rw add-one (drop-cons events i c.event-item.result c.loop-event-test.true ∙ ap (λ x. x ∷ drop (suc i) events) (sym c.event-item.is)) in
    goes_on (string_bytes c.loop-event.text) (string_bytes c.push_mark.new.text) (string_bytes c.push_event.new.text) (codes ", ") (event_text names (event_expression_of c.event-item.result))
    (texts (drop i events)) (texts (drop (i + 1) events)) (string_bytes c.args.text.now ++ texts events) c.loop-event.invariant (ap texts first) c.in_ok-push_mark.ensures c.in_ok-push_event.ensures

pub returns : goal.returns
returns g c =
    let events = c.args.events.now in
    let texts = λ (xs : List (EventExpression g.row.A.Denot)). events_behind (names_of c.args.names.now) (event_expressions_of xs) in
    comes_to_end (string_bytes c.args.text.now) (string_bytes c.loop-event.text) (texts (drop c.loop-event.event-index events)) (texts events)
    c.loop-event.invariant (ap texts (drop_all c.loop-event.event-index events c.loop-event-test.false))
