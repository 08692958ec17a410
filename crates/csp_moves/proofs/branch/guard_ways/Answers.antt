-- The ways of the body, where the condition is true.
use Rattle.csp_expression.specs.Expression.{expression_of}
use Rattle.csp_term.specs.Script.{script_of_parts}
use Rattle.csp_term.specs.Term.{process_of}
use Rattle.csp_moves.specs.Way.{lent_action}
use Rattle.csp_moves.proofs.Picked.{body_found, no_body_found}
use Rattle.csp_moves.proofs.branch.guard_ways.Goals as goal

pub returns-in_default : goal.returns-in_default
returns-in_default g c =
    let none = rw c.in_default.is at c.in_ok-found.ensures in
    no_body_found (script_of_parts c.args.script.now) (expression_of c.args.test.now) (process_of c.args.body.now) (lent_action c.args.action) (process_of c.args.target.now)
    c.no_ways.result none.0 none.1 c.no_ways.ensures

pub returns : goal.returns
returns g c =
    body_found (script_of_parts c.args.script.now) (expression_of c.args.test.now) (process_of c.args.body.now) (lent_action c.args.action) (process_of c.args.target.now)
    c.to_body.result c.in-Some.holds (rw c.in-Some.is at c.in_ok-found.ensures) c.to_body.ensures
