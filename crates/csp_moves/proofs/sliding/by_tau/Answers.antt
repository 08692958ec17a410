-- The law of the operator, with what is found of the target.
use Rattle.std.proofs.Common.{◌≡◌, true, false, refl, sym, ◌∙◌}
use Rattle.theory_syntax.specs.Value.{Tau}
use Rattle.theory_syntax.specs.Process.{SlidingChoice}
use Rattle.csp_term.specs.Script.{script_of_parts}
use Rattle.csp_term.specs.Term.{process_of}
use Rattle.theory_origins.proofs.OperandWays.{sliding_away_ways, sliding_tau_ways}
use Rattle.csp_moves.specs.Way.{lent_process}
use Rattle.csp_moves.proofs.Found.{found_in, one_same, two_same}
use Rattle.csp_moves.proofs.sliding.by_tau.Goals as goal

pub returns-then-branch : goal.returns-then-branch
returns-then-branch g c =
    let s = script_of_parts c.args.script.now in
    found_in s (SlidingChoice (process_of c.args.left.now) (process_of c.args.right.now)) Tau (process_of c.args.target.now) c.two_ways.result _ _ c.two_ways.ensures (two_same _ _ _ _ c.through_branch-by_left.ensures refl)
    (sliding_away_ways s (process_of c.args.left.now) (process_of c.args.right.now) (process_of c.args.target.now) (lent_process c.left_of.result) c.left_of.ensures (c.in_ok-leads_to.ensures.0 c.if-branch.true))

pub returns : goal.returns
returns g c =
    let s = script_of_parts c.args.script.now in
    found_in s (SlidingChoice (process_of c.args.left.now) (process_of c.args.right.now)) Tau (process_of c.args.target.now) c.one_way.result _ _ c.one_way.ensures (one_same _ _ c.through_branch-by_left.ensures)
    (sliding_tau_ways s (process_of c.args.left.now) (process_of c.args.right.now) (process_of c.args.target.now) (lent_process c.left_of.result) c.left_of.ensures (λ same. let e : true ≡ false = sym (c.in_ok-leads_to.ensures.1 same) ∙ c.if-branch.false in absurd (cc e)))
