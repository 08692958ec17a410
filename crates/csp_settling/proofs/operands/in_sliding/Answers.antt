-- The operator, by what its operand is unfolded to.
use Rattle.std.proofs.Common.{sym, ◌∙◌, ap, ap₂, refl, subst}
use Rattle.theory_syntax.specs.Process as pure
use Rattle.csp_term.specs.Term.{process_of}
use Rattle.csp_term.proofs.Forms.{of_sliding}
use Rattle.csp_settling.specs.declared.unfolded.Unfolded.{Unfolded}
use Rattle.csp_settling.specs.Settling.{TellsUnfolded}
use Rattle.csp_settling.proofs.Past.{sliding_past}
use Rattle.csp_settling.proofs.Unfolding.{told_of}
use Rattle.csp_settling.proofs.operands.in_sliding.Goals as goal

pub returns-in-Same : goal.returns-in-Same
returns-in-Same g c p v h =
    let U : Unfolded g.row.A.Denot → Type 0 = λ x. TellsUnfolded p v x in
    ap (λ t. pure.SlidingChoice t (process_of c.args.right.now)) (subst U c.in-Same.is h)

pub returns-in-Past : goal.returns-in-Past
returns-in-Past g c p v h =
    let U : Unfolded g.row.A.Denot → Type 0 = λ x. TellsUnfolded p v x in
    sliding_past v (process_of c.args.right.now) (subst U c.in-Past.is h)

pub returns-in_ok-right-in-To : goal.returns-in_ok-right-in-To
returns-in_ok-right-in-To g c p v h =
    let U : Unfolded g.row.A.Denot → Type 0 = λ x. TellsUnfolded p v x in
    let e = subst U c.in-To.is h in
    let made = of_sliding g.row.A.Denot c.in-To.left c.in_ok-right-in-To.right ∙ ap₂ (λ t u. pure.SlidingChoice t u) e c.in_ok-right-in-To.ensures in
    told_of (pure.SlidingChoice p (process_of c.args.right.now)) (pure.SlidingChoice p (process_of c.args.right.now)) (pure.SlidingChoice v (process_of c.args.right.now)) _ c.made.result refl (sym made) (c.made.ensures (pure.SlidingChoice p (process_of c.args.right.now)))
