-- What each form of an origin unfolds. The part is smaller than what it is a part of.
use Rattle.std.proofs.Common.{◌≡◌, ◌<◌, List, IfOk, Option, Some, map, option_map, sym, subst, ◌∙◌, ap, inl, inr, lit≤, arith}
use Rattle.theory_explanation.specs.PartNames as names
use Rattle.theory_explanation.specs.PartNames.{name_above, unfolded}
use Rattle.csp_moves.specs.Origin.{origin_of}
use Rattle.csp_moves.specs.Passage.{passage_of, side_of}
use Rattle.csp_moves.specs.declared.origin.Origin.{Origin}
use Rattle.csp_moves.specs.declared.passage.Side.{Side}
use Rattle.csp_moves.proofs.Origins.{of_below, of_chooses, of_does, of_ends, of_slides, of_together, of_unfolds}
use Rattle.counterexample.specs.PartNames.{part_name_of}
use Rattle.counterexample.proofs.Sizes.{origin_size}
use Rattle.counterexample.proofs.unfolded.+unfolded.Goals as goal

pub unfolded_in-requires : goal.unfolded_in-requires
unfolded_in-requires g t c κs within =
    let size = λ (o : Origin g.row.A.Denot). origin_size (origin_of o) in
    let whole = ap size c.in-Below.is ∙ ap origin_size (of_below g.row.A.Denot c.in-Below.passage c.in-Below.part) in
    let part = ap size c.deref.ensures in
    let smaller : origin_size (origin_of c.deref.result.now) < origin_size (origin_of c.args.origin.now) = omega (arith, whole, part) in
    (omega (arith, c.requires, smaller), (within, elim g.met.A.AllocHandle.small [ inl e ↦ rw (e.0, e.1) (search (lit≤)) | inr e ↦ rw (e.0, e.1) (search (lit≤)) ]))

pub returns-in-Does : goal.returns-in-Does
returns-in-Does g t c = sym (ap unfolded (ap origin_of c.in-Does.is ∙ of_does g.row.A.Denot c.in-Does.field-0))

pub returns-in-Ends : goal.returns-in-Ends
returns-in-Ends g t c = sym (ap unfolded (ap origin_of c.in-Ends.is ∙ of_ends g.row.A.Denot))

pub returns-in-Unfolds : goal.returns-in-Unfolds
returns-in-Unfolds g t c =
    ap (λ (w : List Side). Some (record { way = map side_of w; equation = c.in-Unfolds.equation.0 })) c.new.ensures.items
    ∙ sym (ap unfolded (ap origin_of c.in-Unfolds.is ∙ of_unfolds g.row.A.Denot c.in-Unfolds.equation))

pub returns-in-Chooses : goal.returns-in-Chooses
returns-in-Chooses g t c = sym (ap unfolded (ap origin_of c.in-Chooses.is ∙ of_chooses g.row.A.Denot c.in-Chooses.field-0))

pub returns-in-Slides : goal.returns-in-Slides
returns-in-Slides g t c = sym (ap unfolded (ap origin_of c.in-Slides.is ∙ of_slides g.row.A.Denot))

pub returns-in_ok-below-in-Below : goal.returns-in_ok-below-in-Below
returns-in_ok-below-in-Below g t c =
    let passage = c.in-Below.passage in
    let part = ap (λ (o : Origin g.row.A.Denot). name_above (passage_of passage) (unfolded (origin_of o))) c.deref.ensures in
    let same = ap (name_above (passage_of passage)) c.in_ok-below-in-Below.ensures ∙ part ∙ sym (ap unfolded (ap origin_of c.in-Below.is ∙ of_below g.row.A.Denot passage c.in-Below.part)) in
    let F : Option names.PartName → Type 0 = λ z. IfOk c.name_above.result (λ d. option_map part_name_of d ≡ z) in
    subst F same c.name_above.ensures

pub returns-in-Together : goal.returns-in-Together
returns-in-Together g t c = sym (ap unfolded (ap origin_of c.in-Together.is ∙ of_together g.row.A.Denot c.in-Together.field-0 c.in-Together.field-1))

pub name_above-requires : goal.name_above-requires
name_above-requires g t c = elim g.met.A.AllocHandle.small [ inl e ↦ rw (e.0, e.1) (search (lit≤)) | inr e ↦ rw (e.0, e.1) (search (lit≤)) ]
