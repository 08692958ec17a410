-- It does its event where it does the step.
use Rattle.std.proofs.Common.{Bool, subst}
use Rattle.theory_syntax.specs.Value.{Ev}
use Rattle.csp_value.specs.Action.{event_of}
use Rattle.csp_term.specs.Script.{script_of_parts}
use Rattle.csp_term.specs.Term.{process_of}
use Rattle.csp_moves.specs.Deciding.{IsDecided}
use Rattle.csp_moves.proofs.Stepped.{none_found, prefix_found}
use Rattle.csp_moves.proofs.prefix.by_event.Goals as goal

pub returns-then-is_step : goal.returns-then-is_step
returns-then-is_step g c =
    let s = script_of_parts c.args.script.now in
    let p = process_of c.args.term.now in
    let e = event_of c.args.event.now in
    let t = process_of c.args.target.now in
    let P : Bool → Type 0 = λ b. IsDecided s p (Ev e) t b in
    prefix_found s p t c.one_way.result e c.requires (subst P c.if-is_step.true c.in_ok-is_step.ensures) c.one_way.ensures

pub returns : goal.returns
returns g c =
    let s = script_of_parts c.args.script.now in
    let p = process_of c.args.term.now in
    let e = event_of c.args.event.now in
    let t = process_of c.args.target.now in
    let P : Bool → Type 0 = λ b. IsDecided s p (Ev e) t b in
    none_found s p t c.no_ways.result (Ev e) (subst P c.if-is_step.false c.in_ok-is_step.ensures) c.no_ways.ensures
