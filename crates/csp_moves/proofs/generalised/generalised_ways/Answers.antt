-- The events of the set are shared, and all others free.
use Rattle.csp_events.specs.Events.{event_set_of}
use Rattle.csp_events.specs.Testing.{test_of}
use Rattle.csp_term.specs.Script.{script_of_parts}
use Rattle.csp_term.specs.Term.{process_of}
use Rattle.csp_moves.specs.Way.{lent_action}
use Rattle.csp_moves.proofs.Parallel.{generalised_found, generalised_none}
use Rattle.csp_moves.proofs.generalised.generalised_ways.Goals as goal

pub returns-in_default : goal.returns-in_default
returns-in_default g c =
    let none = rw c.in_default.is at c.in_ok-found.ensures in
    generalised_none (script_of_parts c.args.script.now) (process_of c.args.process.left.now) (process_of c.args.process.right.now) (process_of c.args.target.now) (lent_action c.args.action)
    c.no_ways.result (event_set_of c.args.process.shared.now) none.0 none.1 c.no_ways.ensures

pub returns : goal.returns
returns g c =
    let is = rw c.in-Some.is at c.in_ok-found.ensures in
    generalised_found (script_of_parts c.args.script.now) (process_of c.args.process.left.now) (process_of c.args.process.right.now) (process_of c.args.target.now) (lent_action c.args.action)
    c.parallel_ways.result c.freedom_of-freedom.result (event_set_of c.args.process.shared.now) (test_of c.in-Some.test) is.0 c.freedom_of-freedom.ensures c.parallel_ways.ensures
