-- The events that the set holds, of those that lead to the body of the target.
use Rattle.std.proofs.Common.{map}
use Rattle.csp_value.specs.Action.{event_of}
use Rattle.csp_events.specs.Events.{event_set_of}
use Rattle.csp_events.specs.Testing.{test_of}
use Rattle.csp_term.specs.Script.{script_of_parts}
use Rattle.csp_term.specs.Term.{process_of}
use Rattle.csp_moves.proofs.Bodies as body
use Rattle.csp_moves.proofs.Found.{if_so}
use Rattle.csp_moves.proofs.hiding.hidden_to.Goals as goal

pub returns-in_default : goal.returns-in_default
returns-in_default g c =
    let s = script_of_parts c.args.script.now in
    let p = process_of c.args.process.body.now in
    let a = event_set_of c.args.process.events.now in
    let t = process_of c.args.target.now in
    body.no_hidden_body s p t a (map event_of c.new.result.items) c.in_default.ensures

pub returns-in_default-found : goal.returns-in_default-found
returns-in_default-found g c =
    let s = script_of_parts c.args.script.now in
    let p = process_of c.args.process.body.now in
    let a = event_set_of c.args.process.events.now in
    let t = process_of c.args.target.now in
    let none = rw c.in_default-found.is at c.in_ok-found.ensures in
    body.no_hidden_test s p t a (map event_of c.new-in_default-found.result.items) none.0 none.1

pub returns : goal.returns
returns g c =
    let s = script_of_parts c.args.script.now in
    let p = process_of c.args.process.body.now in
    let a = event_set_of c.args.process.events.now in
    let t = process_of c.args.target.now in
    let found = rw c.in-Some-found.is at c.in_ok-found.ensures in
    if_so c.events_to-events.result c.events_to-events.ensures
    (λ events are. body.hidden_events_are s p t (process_of c.in-Some.body_target.now) (map event_of events.items) a (test_of c.in-Some-found.test) found.0 c.in-Some.ensures are)
