-- The law of the operator, with what is found of the target.
use Rattle.theory_syntax.specs.Value.{Tau}
use Rattle.theory_syntax.specs.Process.{ExternalChoice}
use Rattle.csp_term.specs.Term.{process_of}
use Rattle.theory_origins.proofs.OperandWays.{external_tau_ways}
use Rattle.csp_moves.specs.Way.{lent_process}
use Rattle.csp_moves.proofs.Found.{found_all, two_same}
use Rattle.csp_moves.proofs.choice.external_by_tau.Goals as goal

pub returns : goal.returns
returns g c =
    found_all (ExternalChoice (process_of c.args.left.now) (process_of c.args.right.now)) Tau (process_of c.args.target.now) c.two_ways.result _ _ c.two_ways.ensures (two_same _ _ _ _ c.through_branch-by_left.ensures c.through_branch-by_right.ensures)
    (λ s. external_tau_ways s (process_of c.args.left.now) (process_of c.args.right.now) (process_of c.args.target.now) (lent_process c.left_of-left_target.result) (lent_process c.right_of-right_target.result) c.left_of-left_target.ensures c.right_of-right_target.ensures)
