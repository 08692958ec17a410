-- The law of the operator, with what is found of the target.
use Rattle.std.proofs.Common.{refl}
use Rattle.theory_syntax.specs.Value.{Tau}
use Rattle.theory_syntax.specs.Process.{Sequential}
use Rattle.csp_term.specs.Script.{script_of_parts}
use Rattle.csp_term.specs.Term.{process_of}
use Rattle.theory_origins.proofs.OperandWays.{sequential_tau_ways}
use Rattle.csp_moves.specs.Way.{lent_process}
use Rattle.csp_moves.proofs.Found.{found_in, two_same}
use Rattle.csp_moves.proofs.sequential.by_tau.Goals as goal

pub returns : goal.returns
returns g c =
    let s = script_of_parts c.args.script.now in
    found_in s (Sequential (process_of c.args.left.now) (process_of c.args.right.now)) Tau (process_of c.args.target.now) c.two_ways.result _ _ c.two_ways.ensures (two_same _ _ _ _ c.through_branch-by_left.ensures refl)
    (sequential_tau_ways s (process_of c.args.left.now) (process_of c.args.right.now) (process_of c.args.target.now) (lent_process c.left_of.result) (lent_process c.in_ok-end.end) c.left_of.ensures c.in_ok-end.ensures)
