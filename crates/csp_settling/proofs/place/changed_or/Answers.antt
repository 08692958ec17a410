-- What is unfolded to itself is left, and else what it is unfolded to stands in the place of the term.
use Rattle.std.proofs.Common.{◌≡◌, sym, ◌∙◌, subst}
use Rattle.theory_syntax.specs.Process.{Process}
use Rattle.csp_term.specs.Term.{process_of}
use Rattle.theory_semantics.specs.Meaning.Unfolding.{in_place_of}
use Rattle.csp_settling.specs.declared.unfolded.Unfolded.{Unfolded}
use Rattle.csp_settling.specs.Settling.{TellsUnfolded}
use Rattle.csp_settling.proofs.Places.{changed_other, changed_past, changed_same}
use Rattle.csp_settling.proofs.place.changed_or.Goals as goal

pub returns-in-Same : goal.returns-in-Same
returns-in-Same g c v h =
    let U : Unfolded g.row.A.Denot → Type 0 = λ x. TellsUnfolded (process_of c.args.process.now) v x in
    changed_same (process_of c.args.term.now) (process_of c.args.process.now) v (subst U c.in-Same.is h)

pub returns-in-Past : goal.returns-in-Past
returns-in-Past g c v h =
    let U : Unfolded g.row.A.Denot → Type 0 = λ x. TellsUnfolded (process_of c.args.process.now) v x in
    changed_past (process_of c.args.term.now) (process_of c.args.process.now) v c.requires (subst U c.in-Past.is h)

pub returns-then-equal_terms : goal.returns-then-equal_terms
returns-then-equal_terms g c v h =
    let U : Unfolded g.row.A.Denot → Type 0 = λ x. TellsUnfolded (process_of c.args.process.now) v x in
    let e = subst U c.in-To.is h in
    changed_same (process_of c.args.term.now) (process_of c.args.process.now) v (sym e ∙ sym (c.equal_terms.ensures.0 c.if-equal_terms.true))

pub returns-else-equal_terms : goal.returns-else-equal_terms
returns-else-equal_terms g c v h =
    let p = process_of c.args.term.now in
    let q = process_of c.args.process.now in
    let U : Unfolded g.row.A.Denot → Type 0 = λ x. TellsUnfolded q v x in
    let e = subst U c.in-To.is h in
    let differ : q ≡ v → ⊥ = λ same. let f = sym (c.equal_terms.ensures.1 (same ∙ sym e)) ∙ c.if-equal_terms.false in cc f in
    let P : Process → Type 0 = λ u. TellsUnfolded p u c.in_place_of.result in
    subst P (sym (changed_other p q v differ)) (subst (λ u. TellsUnfolded p (in_place_of p u) c.in_place_of.result) e c.in_place_of.ensures)
