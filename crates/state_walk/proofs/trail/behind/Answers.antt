-- The last move leads there.
use Rattle.std.proofs.Common.{List, sym, ap}
use Rattle.theory_walk.specs.Trails.{behind}
use Rattle.csp_term.specs.Term.{process_of}
use Rattle.state_walk.specs.Walks.{moves_listed}
use Rattle.state_walk.specs.declared.menu.Move.{Move}
use Rattle.state_walk.proofs.Keeping.{leads_last}
use Rattle.state_walk.proofs.Listing.{none_left}
use Rattle.state_walk.proofs.trail.behind.Goals as goal

pub returns-in-Some : goal.returns-in-Some
returns-in-Some g c = sym (leads_last c.args.taken.now c.in-Some.field-0-1.now c.in-Some.last.now c.in-Some.ensures.cases.0 (process_of c.args.start.now))

pub returns-in-None : goal.returns-in-None
returns-in-None g c = sym (ap (λ (ms : List (Move g.row.A.Denot)). behind (process_of c.args.start.now) (moves_listed ms)) (none_left c.args.taken.now c.in-None.ensures.cases))
