-- Through the body by tau, and by each of the events.
use Rattle.std.proofs.Common.{[], map, refl}
use Rattle.theory_syntax.specs.Value.{Tau}
use Rattle.theory_syntax.specs.Process.{Hiding}
use Rattle.csp_value.specs.Action.{event_of}
use Rattle.csp_events.specs.Events.{event_set_of}
use Rattle.csp_events.specs.Testing.{test_of}
use Rattle.csp_term.specs.Script.{script_of_parts}
use Rattle.csp_term.specs.Term.{process_of}
use Rattle.csp_moves.proofs.Bodies as body
use Rattle.csp_moves.proofs.Found.{found_in}
use Rattle.csp_moves.proofs.hiding.by_tau.Goals as goal

pub returns-in_default : goal.returns-in_default
returns-in_default g c =
    let s = script_of_parts c.args.script.now in
    let p = process_of c.args.process.body.now in
    let a = event_set_of c.args.process.events.now in
    let t = process_of c.args.target.now in
    let none = rw c.in_default.is at c.in_ok-found.ensures in
    found_in s (Hiding p a) Tau t c.no_ways.result _ [] c.no_ways.ensures refl (body.stuck_are s p a t Tau none.0 none.1)

pub returns-in_default-body_of : goal.returns-in_default-body_of
returns-in_default-body_of g c =
    let s = script_of_parts c.args.script.now in
    let p = process_of c.args.process.body.now in
    let a = event_set_of c.args.process.events.now in
    let t = process_of c.args.target.now in
    let found = rw c.in-Some.is at c.in_ok-found.ensures in
    found_in s (Hiding p a) Tau t c.no_ways-in_default-body_of.result _ [] c.no_ways-in_default-body_of.ensures refl (body.no_hidden_are s p a t (test_of c.in-Some.test) found.0 c.in_default-body_of.ensures)

pub returns : goal.returns
returns g c =
    let s = script_of_parts c.args.script.now in
    let p = process_of c.args.process.body.now in
    let a = event_set_of c.args.process.events.now in
    let t = process_of c.args.target.now in
    let found = rw c.in-Some.is at c.in_ok-found.ensures in
    found_in s (Hiding p a) Tau t c.through_hidden.result _ _ c.through_hidden.ensures refl
    (body.hidden_tau_are s p a t (test_of c.in-Some.test) found.0 (process_of c.in-Some-body_of.body_target.now) (map event_of c.args.events.now) c.in-Some-body_of.ensures c.requires)
