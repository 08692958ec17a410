use Rattle.std.proofs.Common.{refl}
use Rattle.theory_checking.specs.Inference.Processes.{behind_event, of_event}
use Rattle.csp_events.specs.Events.{event_expression_of}
use Rattle.csp_expression.specs.Evaluation.{table_of}
use Rattle.csp_inference.specs.Numbering.{names_of, numbering_of}
use Rattle.csp_inference.proofs.Asking.{left_more, left_none}
use Rattle.csp_inference.proofs.AskingEvents.{asked_events, behind_asked_events}
use Rattle.csp_inference.proofs.equations.Equations.ask_events.Goals as goal

pub loop-event-preserved : goal.loop-event-preserved
loop-event-preserved g c =
    let types = table_of c.args.types.now in
    let o = numbering_of c.args.numbering.now in
    let names = names_of c.args.names.now in
    left_more (asked_events types o names) behind_asked_events c.args.self.now c.loop-event.self c.args.events.now c.loop-event.event-index
    (λ n e. of_event types o n names (event_expression_of e)) (λ n e. behind_event n (event_expression_of e)) c.ask_event.new.self c.event-item.result
    (λ n es. refl) (λ n es. refl)
    c.loop-event-test.true c.event-item.is c.loop-event.invariant c.in_ok-ask_event.ensures

pub returns : goal.returns
returns g c =
    left_none (asked_events (table_of c.args.types.now) (numbering_of c.args.numbering.now) (names_of c.args.names.now)) behind_asked_events c.args.self.now
    c.loop-event.self c.args.events.now c.loop-event.event-index (λ n. refl) (λ n. refl) c.loop-event-test.false c.loop-event.invariant
