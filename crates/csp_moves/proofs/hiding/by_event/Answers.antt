-- A hidden event is none of the whole.
use Rattle.std.proofs.Common.{[], refl, sym, ◌∙◌}
use Rattle.theory_syntax.specs.Value.{Ev}
use Rattle.theory_syntax.specs.Process.{Hiding}
use Rattle.csp_value.specs.Action.{event_of}
use Rattle.csp_events.specs.Events.{event_set_of}
use Rattle.csp_events.specs.Testing.{test_of}
use Rattle.csp_term.specs.Script.{script_of_parts}
use Rattle.csp_term.specs.Term.{process_of}
use Rattle.csp_moves.specs.Way.{lent_process}
use Rattle.csp_moves.proofs.Bodies as body
use Rattle.csp_moves.proofs.Found.{found_in, one_same}
use Rattle.csp_moves.proofs.hiding.by_event.Goals as goal

pub returns-in_default : goal.returns-in_default
returns-in_default g c =
    let s = script_of_parts c.args.script.now in
    let p = process_of c.args.process.body.now in
    let a = event_set_of c.args.process.events.now in
    let t = process_of c.args.target.now in
    let none = rw c.in_default.is at c.in_ok-found.ensures in
    found_in s (Hiding p a) (Ev (event_of c.args.event.now)) t c.no_ways.result _ [] c.no_ways.ensures refl (body.stuck_are s p a t (Ev (event_of c.args.event.now)) none.0 none.1)

pub returns-then-is_hidden : goal.returns-then-is_hidden
returns-then-is_hidden g c =
    let s = script_of_parts c.args.script.now in
    let p = process_of c.args.process.body.now in
    let a = event_set_of c.args.process.events.now in
    let t = process_of c.args.target.now in
    let e = event_of c.args.event.now in
    let found = rw c.in-Some.is at c.in_ok-found.ensures in
    found_in s (Hiding p a) (Ev e) t c.no_ways-then-is_hidden.result _ [] c.no_ways-then-is_hidden.ensures refl
    (body.hidden_event_are s p a t (test_of c.in-Some.test) found.0 e (sym c.holds-is_hidden.ensures ∙ c.if-is_hidden.true))

pub returns : goal.returns
returns g c =
    let s = script_of_parts c.args.script.now in
    let p = process_of c.args.process.body.now in
    let a = event_set_of c.args.process.events.now in
    let t = process_of c.args.target.now in
    let e = event_of c.args.event.now in
    let found = rw c.in-Some.is at c.in_ok-found.ensures in
    found_in s (Hiding p a) (Ev e) t c.one_way.result _ _ c.one_way.ensures (one_same _ _ c.to_body.ensures)
    (body.seen_are s p a t (test_of c.in-Some.test) found.0 e (lent_process c.body_of-body_target.result) (sym c.holds-is_hidden.ensures ∙ c.if-is_hidden.false) c.body_of-body_target.ensures)
