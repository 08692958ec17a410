-- The operator, by what its operand is unfolded to.
use Rattle.std.proofs.Common.{sym, ◌∙◌, ap, ap₂, refl, subst}
use Rattle.theory_syntax.specs.Process as pure
use Rattle.csp_events.specs.Events.{event_set_of}
use Rattle.csp_term.proofs.Forms.{of_hiding}
use Rattle.csp_settling.specs.declared.unfolded.Unfolded.{Unfolded}
use Rattle.csp_settling.specs.Settling.{TellsUnfolded}
use Rattle.csp_settling.proofs.Past.{hiding_past}
use Rattle.csp_settling.proofs.Unfolding.{told_of}
use Rattle.csp_settling.proofs.operands.in_hiding.Goals as goal

pub returns-in-Same : goal.returns-in-Same
returns-in-Same g c p v h =
    let U : Unfolded g.row.A.Denot → Type 0 = λ x. TellsUnfolded p v x in
    ap (λ t. pure.Hiding t (event_set_of c.args.hidden.now)) (subst U c.in-Same.is h)

pub returns-in-Past : goal.returns-in-Past
returns-in-Past g c p v h =
    let U : Unfolded g.row.A.Denot → Type 0 = λ x. TellsUnfolded p v x in
    hiding_past v (event_set_of c.args.hidden.now) (subst U c.in-Past.is h)

pub returns-in_ok-hidden-in-To : goal.returns-in_ok-hidden-in-To
returns-in_ok-hidden-in-To g c p v h =
    let U : Unfolded g.row.A.Denot → Type 0 = λ x. TellsUnfolded p v x in
    let e = subst U c.in-To.is h in
    let made = of_hiding g.row.A.Denot c.in-To.body c.in_ok-hidden-in-To.hidden ∙ ap₂ (λ t a. pure.Hiding t a) e c.in_ok-hidden-in-To.ensures in
    told_of (pure.Hiding p (event_set_of c.args.hidden.now)) (pure.Hiding p (event_set_of c.args.hidden.now)) (pure.Hiding v (event_set_of c.args.hidden.now)) _ c.made.result refl (sym made) (c.made.ensures (pure.Hiding p (event_set_of c.args.hidden.now)))
