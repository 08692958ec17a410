-- The operator of both sides, by what they are unfolded to.
use Rattle.std.proofs.Common.{sym, ◌∙◌, ap₂, refl, subst}
use Rattle.theory_syntax.specs.Process as pure
use Rattle.csp_events.specs.Events.{event_set_of}
use Rattle.csp_term.proofs.Forms.{of_generalised}
use Rattle.csp_settling.specs.declared.unfolded.Sides.{Sides}
use Rattle.csp_settling.specs.Settling.{TellsSides}
use Rattle.csp_settling.proofs.Past.{generalised_past}
use Rattle.csp_settling.proofs.Unfolding.{told_of}
use Rattle.csp_settling.proofs.operands.in_generalised.Goals as goal

pub returns-in-Same : goal.returns-in-Same
returns-in-Same g c p v q w h =
    let S : Sides g.row.A.Denot → Type 0 = λ x. TellsSides p v q w x in
    let e = subst S c.in-Same.is h in
    ap₂ (λ t u. pure.GeneralisedParallel t (event_set_of c.args.shared.now) u) e.0 e.1

pub returns-in-Past : goal.returns-in-Past
returns-in-Past g c p v q w h =
    let S : Sides g.row.A.Denot → Type 0 = λ x. TellsSides p v q w x in
    generalised_past (event_set_of c.args.shared.now) v w (subst S c.in-Past.is h)

pub returns-in_ok-shared-in-To : goal.returns-in_ok-shared-in-To
returns-in_ok-shared-in-To g c p v q w h =
    let S : Sides g.row.A.Denot → Type 0 = λ x. TellsSides p v q w x in
    let a = event_set_of c.args.shared.now in
    let e = subst S c.in-To.is h in
    let made = of_generalised g.row.A.Denot c.in-To.left c.in_ok-shared-in-To.shared c.in-To.right ∙ (λ i. pure.GeneralisedParallel (e.0 i) (c.in_ok-shared-in-To.ensures i) (e.1 i)) in
    told_of (pure.GeneralisedParallel p a q) (pure.GeneralisedParallel p a q) (pure.GeneralisedParallel v a w) _ c.made.result refl (sym made) (c.made.ensures (pure.GeneralisedParallel p a q))
