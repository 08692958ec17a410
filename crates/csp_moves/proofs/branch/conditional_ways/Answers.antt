-- The ways of the branch that is picked.
use Rattle.csp_expression.specs.Expression.{expression_of}
use Rattle.csp_term.specs.Script.{script_of_parts}
use Rattle.csp_term.specs.Term.{process_of}
use Rattle.csp_moves.specs.Way.{lent_action}
use Rattle.csp_moves.proofs.Picked.{branch_found, no_branch_found}
use Rattle.csp_moves.proofs.branch.conditional_ways.Goals as goal

pub returns-in_default : goal.returns-in_default
returns-in_default g c =
    let none = rw c.in_default.is at c.in_ok-found.ensures in
    no_branch_found (script_of_parts c.args.script.now) (expression_of c.args.process.test.now) (process_of c.args.process.first.now) (process_of c.args.process.second.now) (lent_action c.args.action) (process_of c.args.target.now)
    c.no_ways.result none.0 none.1 c.no_ways.ensures

pub returns : goal.returns
returns g c =
    branch_found (script_of_parts c.args.script.now) (expression_of c.args.process.test.now) (process_of c.args.process.first.now) (process_of c.args.process.second.now) (lent_action c.args.action) (process_of c.args.target.now)
    c.to_branch.result c.in-Some.holds (rw c.in-Some.is at c.in_ok-found.ensures) c.to_branch.ensures
