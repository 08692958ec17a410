-- Nothing is found where nothing may be done.
use Rattle.std.proofs.Common.{Bool, None, refl, sym, subst}
use Rattle.csp_term.specs.Term.{process_of}
use Rattle.theory_origins.specs.Ways.{IsBodyWhere}
use Rattle.csp_moves.specs.Sides.{joint_of, joined}
use Rattle.csp_moves.specs.Way.{lent_process}
use Rattle.csp_moves.proofs.together.right_where.Goals as goal

pub returns-then-free : goal.returns-then-free
returns-then-free g c =
    let P : Bool → Type 0 = λ b. IsBodyWhere b (λ v. joined (joint_of c.args.operator.now) (process_of c.args.left.now) v) (process_of c.args.target.now) (lent_process c.right_of.result) in subst P (sym c.if-free.true) c.right_of.ensures

pub returns : goal.returns
returns g c = let P : Bool → Type 0 = λ b. IsBodyWhere b (λ v. joined (joint_of c.args.operator.now) (process_of c.args.left.now) v) (process_of c.args.target.now) None in subst P (sym c.if-free.false) refl
