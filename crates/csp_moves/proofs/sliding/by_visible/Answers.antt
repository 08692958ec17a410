-- The law of the operator.
use Rattle.theory_syntax.specs.Process.{SlidingChoice}
use Rattle.csp_term.specs.Term.{process_of}
use Rattle.theory_origins.proofs.OperandWays.{sliding_visible_ways}
use Rattle.csp_moves.specs.Way.{lent_action}
use Rattle.csp_moves.proofs.Found.{found_in, one_same}
use Rattle.csp_moves.proofs.sliding.by_visible.Goals as goal

pub returns : goal.returns
returns g c = λ s.
    found_in s (SlidingChoice (process_of c.args.left.now) (process_of c.args.right.now)) (lent_action c.args.action) (process_of c.args.target.now) c.one_way.result _ _ c.one_way.ensures (one_same _ _ c.through_branch.ensures)
    (sliding_visible_ways s (process_of c.args.left.now) (process_of c.args.right.now) (process_of c.args.target.now) (lent_action c.args.action) c.requires)
