-- The law of the operator, with what is found of the target.
use Rattle.theory_syntax.specs.Value.{Ev}
use Rattle.theory_syntax.specs.Process.{Interrupt}
use Rattle.csp_value.specs.Action.{event_of}
use Rattle.csp_term.specs.Term.{process_of}
use Rattle.theory_origins.proofs.OperandWays.{interrupt_event_ways}
use Rattle.csp_moves.specs.Way.{lent_process}
use Rattle.csp_moves.proofs.Found.{found_all, two_same}
use Rattle.csp_moves.proofs.interrupt.by_event.Goals as goal

pub returns : goal.returns
returns g c =
    found_all (Interrupt (process_of c.args.left.now) (process_of c.args.right.now)) (Ev (event_of c.args.event.now)) (process_of c.args.target.now) c.two_ways.result _ _ c.two_ways.ensures (two_same _ _ _ _ c.through_branch-by_left.ensures c.through_branch-by_right.ensures)
    (λ s. interrupt_event_ways s (process_of c.args.left.now) (process_of c.args.right.now) (process_of c.args.target.now) (event_of c.args.event.now) (lent_process c.left_of.result) c.left_of.ensures)
