-- Nothing is found where nothing may be done.
use Rattle.std.proofs.Common.{Bool, None, refl, sym, subst}
use Rattle.csp_term.specs.Term.{process_of}
use Rattle.theory_origins.specs.Ways.{IsSplitWhere}
use Rattle.csp_moves.specs.Sides.{joint_of, joined, sides_split}
use Rattle.csp_moves.proofs.together.both_where.Goals as goal

pub returns-then-shared : goal.returns-then-shared
returns-then-shared g c =
    let P : Bool → Type 0 = λ b. IsSplitWhere b (joined (joint_of c.args.operator.now)) (process_of c.args.target.now) (sides_split c.both_of.result) in subst P (sym c.if-shared.true) c.both_of.ensures

pub returns : goal.returns
returns g c = let P : Bool → Type 0 = λ b. IsSplitWhere b (joined (joint_of c.args.operator.now)) (process_of c.args.target.now) None in subst P (sym c.if-shared.false) refl
