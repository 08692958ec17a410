-- The operator, by what its operand is unfolded to.
use Rattle.std.proofs.Common.{sym, ◌∙◌, ap, ap₂, refl, subst}
use Rattle.theory_syntax.specs.Process as pure
use Rattle.csp_events.specs.Events.{renaming_pair_of, renaming_pairs_of}
use Rattle.csp_value.proofs.Copying.{copies_same}
use Rattle.csp_term.proofs.Forms.{of_renaming}
use Rattle.csp_settling.specs.declared.unfolded.Unfolded.{Unfolded}
use Rattle.csp_settling.specs.Settling.{TellsUnfolded}
use Rattle.csp_settling.proofs.Past.{renaming_past}
use Rattle.csp_settling.proofs.Unfolding.{told_of}
use Rattle.csp_settling.proofs.operands.in_renaming.Goals as goal

pub returns-in-Same : goal.returns-in-Same
returns-in-Same g c p v h =
    let U : Unfolded g.row.A.Denot → Type 0 = λ x. TellsUnfolded p v x in
    ap (λ t. pure.Renaming t (renaming_pairs_of c.args.pairs.now)) (subst U c.in-Same.is h)

pub returns-in-Past : goal.returns-in-Past
returns-in-Past g c p v h =
    let U : Unfolded g.row.A.Denot → Type 0 = λ x. TellsUnfolded p v x in
    renaming_past v (renaming_pairs_of c.args.pairs.now) (subst U c.in-Past.is h)

pub returns-in_ok-pairs-in-To : goal.returns-in_ok-pairs-in-To
returns-in_ok-pairs-in-To g c p v h =
    let U : Unfolded g.row.A.Denot → Type 0 = λ x. TellsUnfolded p v x in
    let e = subst U c.in-To.is h in
    let made = of_renaming g.row.A.Denot c.in-To.body c.in_ok-pairs-in-To.pairs ∙ ap₂ (λ t rs. pure.Renaming t rs) e (copies_same renaming_pair_of c.args.pairs.now c.in_ok-pairs-in-To.pairs.items c.in_ok-pairs-in-To.ensures) in
    told_of (pure.Renaming p (renaming_pairs_of c.args.pairs.now)) (pure.Renaming p (renaming_pairs_of c.args.pairs.now)) (pure.Renaming v (renaming_pairs_of c.args.pairs.now)) _ c.made.result refl (sym made) (c.made.ensures (pure.Renaming p (renaming_pairs_of c.args.pairs.now)))
