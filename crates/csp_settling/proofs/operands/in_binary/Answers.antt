-- The operator of both sides, by what they are unfolded to.
use Rattle.std.proofs.Common.{sym, ◌∙◌, ap₂, refl, subst}
use Rattle.theory_syntax.specs.Operators.{binary_process}
use Rattle.csp_term.proofs.Forms.{of_binary}
use Rattle.csp_settling.specs.declared.unfolded.Sides.{Sides}
use Rattle.csp_settling.specs.Settling.{TellsSides}
use Rattle.csp_settling.proofs.Past.{binary_past}
use Rattle.csp_settling.proofs.Unfolding.{told_of}
use Rattle.csp_settling.proofs.operands.in_binary.Goals as goal

pub returns-in-Same : goal.returns-in-Same
returns-in-Same g c p v q w h =
    let S : Sides g.row.A.Denot → Type 0 = λ x. TellsSides p v q w x in
    let e = subst S c.in-Same.is h in
    ap₂ (binary_process c.args.operator) e.0 e.1

pub returns-in-Past : goal.returns-in-Past
returns-in-Past g c p v q w h =
    let S : Sides g.row.A.Denot → Type 0 = λ x. TellsSides p v q w x in
    binary_past c.args.operator v w (subst S c.in-Past.is h)

pub returns-in-To : goal.returns-in-To
returns-in-To g c p v q w h =
    let S : Sides g.row.A.Denot → Type 0 = λ x. TellsSides p v q w x in
    let op = c.args.operator in
    let l = c.in-To.left in
    let r = c.in-To.right in
    let e = subst S c.in-To.is h in
    told_of (binary_process op p q) (binary_process op p q) (binary_process op v w) _ c.made.result refl (sym (of_binary g.row.A.Denot op l r ∙ ap₂ (binary_process op) e.0 e.1)) (c.made.ensures (binary_process op p q))
