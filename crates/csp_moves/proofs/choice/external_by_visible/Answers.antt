-- The law of the operator, with what is found of the target.
use Rattle.theory_syntax.specs.Process.{ExternalChoice}
use Rattle.csp_term.specs.Term.{process_of}
use Rattle.theory_origins.proofs.OperandWays.{external_visible_ways}
use Rattle.csp_moves.specs.Way.{lent_action}
use Rattle.csp_moves.proofs.Found.{found_all, two_same}
use Rattle.csp_moves.proofs.choice.external_by_visible.Goals as goal

pub returns : goal.returns
returns g c =
    found_all (ExternalChoice (process_of c.args.left.now) (process_of c.args.right.now)) (lent_action c.args.action) (process_of c.args.target.now) c.two_ways.result _ _ c.two_ways.ensures (two_same _ _ _ _ c.through_branch-by_left.ensures c.through_branch-by_right.ensures)
    (λ s. external_visible_ways s (process_of c.args.left.now) (process_of c.args.right.now) (process_of c.args.target.now) (lent_action c.args.action) c.requires)
