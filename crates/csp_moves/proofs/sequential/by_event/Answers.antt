-- The law of the operator, with what is found of the target.
use Rattle.theory_syntax.specs.Value.{Ev}
use Rattle.theory_syntax.specs.Process.{Sequential}
use Rattle.csp_value.specs.Action.{event_of}
use Rattle.csp_term.specs.Term.{process_of}
use Rattle.theory_origins.proofs.OperandWays.{sequential_event_ways}
use Rattle.csp_moves.specs.Way.{lent_process}
use Rattle.csp_moves.proofs.Found.{found_in, one_same}
use Rattle.csp_moves.proofs.sequential.by_event.Goals as goal

pub returns : goal.returns
returns g c = λ s.
    found_in s (Sequential (process_of c.args.left.now) (process_of c.args.right.now)) (Ev (event_of c.args.event.now)) (process_of c.args.target.now) c.one_way.result _ _ c.one_way.ensures (one_same _ _ c.through_branch.ensures)
    (sequential_event_ways s (process_of c.args.left.now) (process_of c.args.right.now) (process_of c.args.target.now) (event_of c.args.event.now) (lent_process c.left_of-left_target.result) c.left_of-left_target.ensures)
