-- The operator of both sides, by what they are unfolded to.
use Rattle.std.proofs.Common.{sym, ◌∙◌, ap₂, refl, subst}
use Rattle.theory_syntax.specs.Process as pure
use Rattle.csp_events.specs.Events.{event_set_of}
use Rattle.csp_term.proofs.Forms.{of_alphabetised}
use Rattle.csp_settling.specs.declared.unfolded.Sides.{Sides}
use Rattle.csp_settling.specs.Settling.{TellsSides}
use Rattle.csp_settling.proofs.Past.{alphabetised_past}
use Rattle.csp_settling.proofs.Unfolding.{told_of}
use Rattle.csp_settling.proofs.operands.in_alphabetised.Goals as goal

pub returns-in-Same : goal.returns-in-Same
returns-in-Same g c p v q w h =
    let S : Sides g.row.A.Denot → Type 0 = λ x. TellsSides p v q w x in
    let e = subst S c.in-Same.is h in
    ap₂ (λ t u. pure.AlphabetisedParallel t (event_set_of c.args.own.now) (event_set_of c.args.other.now) u) e.0 e.1

pub returns-in-Past : goal.returns-in-Past
returns-in-Past g c p v q w h =
    let S : Sides g.row.A.Denot → Type 0 = λ x. TellsSides p v q w x in
    alphabetised_past (event_set_of c.args.own.now) (event_set_of c.args.other.now) v w (subst S c.in-Past.is h)

pub returns-in_ok-other-in-To : goal.returns-in_ok-other-in-To
returns-in_ok-other-in-To g c p v q w h =
    let S : Sides g.row.A.Denot → Type 0 = λ x. TellsSides p v q w x in
    let a = event_set_of c.args.own.now in
    let b = event_set_of c.args.other.now in
    let e = subst S c.in-To.is h in
    let made = of_alphabetised g.row.A.Denot c.in-To.left c.in_ok-own-in-To.own c.in_ok-other-in-To.other c.in-To.right
    ∙ (λ i. pure.AlphabetisedParallel (e.0 i) (c.in_ok-own-in-To.ensures i) (c.in_ok-other-in-To.ensures i) (e.1 i)) in
    told_of (pure.AlphabetisedParallel p a b q) (pure.AlphabetisedParallel p a b q) (pure.AlphabetisedParallel v a b w) _ c.made.result refl (sym made) (c.made.ensures (pure.AlphabetisedParallel p a b q))
