-- It unfolds where it does the step.
use Rattle.std.proofs.Common.{Bool, subst}
use Rattle.csp_term.specs.Script.{script_of_parts}
use Rattle.csp_term.specs.Term.{process_of}
use Rattle.csp_moves.specs.Deciding.{IsDecided}
use Rattle.csp_moves.specs.Way.{lent_action}
use Rattle.csp_moves.proofs.Stepped.{call_found, none_found}
use Rattle.csp_moves.proofs.call.call_ways.Goals as goal

pub returns-then-is_step : goal.returns-then-is_step
returns-then-is_step g c =
    let s = script_of_parts c.args.script.now in
    let p = process_of c.args.term.now in
    let x = lent_action c.args.action in
    let t = process_of c.args.target.now in
    let P : Bool → Type 0 = λ b. IsDecided s p x t b in
    call_found s p t c.one_way.result x c.args.equation.0 c.requires (subst P c.if-is_step.true c.in_ok-is_step.ensures) c.one_way.ensures

pub returns : goal.returns
returns g c =
    let s = script_of_parts c.args.script.now in
    let p = process_of c.args.term.now in
    let x = lent_action c.args.action in
    let t = process_of c.args.target.now in
    let P : Bool → Type 0 = λ b. IsDecided s p x t b in
    none_found s p t c.no_ways.result x (subst P c.if-is_step.false c.in_ok-is_step.ensures) c.no_ways.ensures
