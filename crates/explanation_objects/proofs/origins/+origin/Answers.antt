-- Each form of an origin. The part is smaller than what it is a part of.
use Rattle.std.proofs.Common.{◌≡◌, ◌+◌, ◌*◌, ◌<◌, List, ◌++◌, map, sym, subst, ◌∙◌, ap, inl, inr, lit≤, arith, lit<}
use Rattle.std.specs.Prelude.{codes}
use Rattle.theory_origins.specs.Doers.{doers}
use Rattle.theory_origins.specs.Origin as pure
use Rattle.theory_objects.specs.Accounts.{done_fields, doers_fields, moved_fields, origin_fields}
use Rattle.csp_value.specs.Action.{event_of}
use Rattle.csp_moves.specs.Origin.{origin_of}
use Rattle.csp_moves.specs.Passage.{passage_of, side_of}
use Rattle.csp_moves.specs.declared.origin.Origin.{Origin}
use Rattle.csp_moves.specs.declared.passage.Passage.{Passage}
use Rattle.csp_moves.specs.declared.passage.Side.{Side}
use Rattle.csp_moves.proofs.Origins.{of_below, of_chooses, of_does, of_ends, of_slides, of_together, of_unfolds}
use Rattle.csp_print.specs.Names.{names_of}
use Rattle.counterexample.proofs.Sizes.{origin_size}
use Rattle.explanation_objects.specs.Putting.{Puts}
use Rattle.explanation_objects.proofs.origins.+origin.Goals as goal

pub put_origin-put_below-requires : goal.put_origin-put_below-requires
put_origin-put_below-requires g t c κs within =
    let size = λ (o : Origin g.row.A.Denot). origin_size (origin_of o) in
    let whole = ap size c.in-Below.is ∙ ap origin_size (of_below g.row.A.Denot c.in-Below.passage c.in-Below.part) in
    let part = ap size c.deref.ensures in
    let smaller : 3 * origin_size (origin_of c.deref.result.now) + 2 < 3 * origin_size (origin_of c.args.origin.now) = omega (arith, whole, part) in
    (omega (arith, c.requires, smaller), (within, elim g.met.A.AllocHandle.small [ inl e ↦ rw (e.0, e.1) (search (lit≤)) | inr e ↦ rw (e.0, e.1) (search (lit≤)) ]))

pub put_origin-returns-in-Does : goal.put_origin-returns-in-Does
put_origin-returns-in-Does g t c =
    let names = names_of c.args.names.now in
    let way = map side_of c.args.way.now in
    let e = event_of c.in-Does.event in
    let r = c.put_done.result in
    let new = c.put_done.new.writer in
    let same : origin_of c.args.origin.now ≡ pure.Does e = ap origin_of c.in-Does.is ∙ of_does g.row.A.Denot c.in-Does.event in
    let D : pure.Origin → Type 0 = λ o. Puts r c.args.writer.now new (done_fields names way (codes "does") e (doers o)) in
    let O : pure.Origin → Type 0 = λ o. Puts r c.args.writer.now new (origin_fields names way o) in
    subst O (sym same) (subst D same c.put_done.ensures)

pub put_origin-returns-in-Ends : goal.put_origin-returns-in-Ends
put_origin-returns-in-Ends g t c =
    let O : pure.Origin → Type 0 = λ o. Puts c.put_moved.result c.args.writer.now c.put_moved.new.writer (origin_fields (names_of c.args.names.now) (map side_of c.args.way.now) o) in
    subst O (sym (ap origin_of c.in-Ends.is ∙ of_ends g.row.A.Denot)) c.put_moved.ensures

pub put_origin-returns-in-Unfolds : goal.put_origin-returns-in-Unfolds
put_origin-returns-in-Unfolds g t c =
    let O : pure.Origin → Type 0 = λ o. Puts c.put_call.result c.args.writer.now c.put_call.new.writer (origin_fields (names_of c.args.names.now) (map side_of c.args.way.now) o) in
    subst O (sym (ap origin_of c.in-Unfolds.is ∙ of_unfolds g.row.A.Denot c.in-Unfolds.equation)) c.put_call.ensures

pub put_origin-returns-in-Chooses : goal.put_origin-returns-in-Chooses
put_origin-returns-in-Chooses g t c =
    let O : pure.Origin → Type 0 = λ o. Puts c.put_choice.result c.args.writer.now c.put_choice.new.writer (origin_fields (names_of c.args.names.now) (map side_of c.args.way.now) o) in
    subst O (sym (ap origin_of c.in-Chooses.is ∙ of_chooses g.row.A.Denot c.in-Chooses.side)) c.put_choice.ensures

pub put_origin-returns-in-Slides : goal.put_origin-returns-in-Slides
put_origin-returns-in-Slides g t c =
    let O : pure.Origin → Type 0 = λ o. Puts c.put_moved-in-Slides.result c.args.writer.now c.put_moved-in-Slides.new.writer (origin_fields (names_of c.args.names.now) (map side_of c.args.way.now) o) in
    subst O (sym (ap origin_of c.in-Slides.is ∙ of_slides g.row.A.Denot)) c.put_moved-in-Slides.ensures

pub put_origin-returns-in-Below : goal.put_origin-returns-in-Below
put_origin-returns-in-Below g t c =
    let passage = c.in-Below.passage in
    let same : pure.Below (passage_of passage) (origin_of c.deref.result.now) ≡ origin_of c.args.origin.now =
    ap (λ (o : Origin g.row.A.Denot). pure.Below (passage_of passage) (origin_of o)) c.deref.ensures
    ∙ sym (ap origin_of c.in-Below.is ∙ of_below g.row.A.Denot passage c.in-Below.part) in
    let O : pure.Origin → Type 0 = λ o. Puts c.put_below.result c.args.writer.now c.put_below.new.writer (origin_fields (names_of c.args.names.now) (map side_of c.args.way.now) o) in
    subst O same c.put_below.ensures

pub put_origin-returns-in-Together : goal.put_origin-returns-in-Together
put_origin-returns-in-Together g t c =
    let names = names_of c.args.names.now in
    let way = map side_of c.args.way.now in
    let r = c.put_together.result in
    let new = c.put_together.new.writer in
    let same = ap origin_of c.in-Together.is ∙ of_together g.row.A.Denot _ _ in
    let D : pure.Origin → Type 0 = λ o. Puts r c.args.writer.now new (moved_fields way (codes "together") ++ doers_fields names way (doers o)) in
    let O : pure.Origin → Type 0 = λ o. Puts r c.args.writer.now new (origin_fields names way o) in
    subst O (sym same) (subst D same c.put_together.ensures)

pub put_on_side-returns : goal.put_on_side-returns
put_on_side-returns g t c =
    let longer = ap (λ (w : List Side). map side_of w) c.deref.ensures.value ∙ c.in_ok-further.ensures in
    let W : List pure.Side → Type 0 = λ w. Puts c.put_origin.result c.args.writer.now c.put_origin.new.writer (origin_fields (names_of c.args.names.now) w (origin_of c.args.part.now)) in
    subst W longer c.put_origin.ensures

pub put_origin-put_done-requires : goal.put_origin-put_done-requires
put_origin-put_done-requires g t c = elim g.met.A.AllocHandle.small [ inl e ↦ rw (e.0, e.1) (search (lit≤, lit<)) | inr e ↦ rw (e.0, e.1) (search (lit≤, lit<)) ]

pub put_below-put_done-requires : goal.put_below-put_done-requires
put_below-put_done-requires g t c = elim g.met.A.AllocHandle.small [ inl e ↦ rw (e.0, e.1) (search (lit≤, lit<)) | inr e ↦ rw (e.0, e.1) (search (lit≤, lit<)) ]

pub put_below-put_done-requires-in-Renames : goal.put_below-put_done-requires-in-Renames
put_below-put_done-requires-in-Renames g t c = elim g.met.A.AllocHandle.small [ inl e ↦ rw (e.0, e.1) (search (lit≤, lit<)) | inr e ↦ rw (e.0, e.1) (search (lit≤, lit<)) ]

pub put_below-returns-in-OnSide : goal.put_below-returns-in-OnSide
put_below-returns-in-OnSide g t c =
    let P : Passage g.row.A.Denot → Type 0 = λ p. Puts c.put_on_side.result c.args.writer.now c.put_on_side.new.writer (origin_fields (names_of c.args.names.now) (map side_of c.args.way.now) (pure.Below (passage_of p) (origin_of c.args.part.now))) in
    subst P (sym c.in-OnSide.is) c.put_on_side.ensures

pub put_below-returns-in-InBody : goal.put_below-returns-in-InBody
put_below-returns-in-InBody g t c =
    let P : Passage g.row.A.Denot → Type 0 = λ p. Puts c.put_origin.result c.args.writer.now c.put_origin.new.writer (origin_fields (names_of c.args.names.now) (map side_of c.args.way.now) (pure.Below (passage_of p) (origin_of c.args.part.now))) in
    subst P (sym c.in-InBody.is) c.put_origin.ensures

pub put_below-returns-in-OnBranch : goal.put_below-returns-in-OnBranch
put_below-returns-in-OnBranch g t c =
    let P : Passage g.row.A.Denot → Type 0 = λ p. Puts c.put_on_side-in-OnBranch.result c.args.writer.now c.put_on_side-in-OnBranch.new.writer (origin_fields (names_of c.args.names.now) (map side_of c.args.way.now) (pure.Below (passage_of p) (origin_of c.args.part.now))) in
    subst P (sym c.in-OnBranch.is) c.put_on_side-in-OnBranch.ensures

pub put_below-returns-in-UnderGuard : goal.put_below-returns-in-UnderGuard
put_below-returns-in-UnderGuard g t c =
    let P : Passage g.row.A.Denot → Type 0 = λ p. Puts c.put_origin-in-UnderGuard.result c.args.writer.now c.put_origin-in-UnderGuard.new.writer (origin_fields (names_of c.args.names.now) (map side_of c.args.way.now) (pure.Below (passage_of p) (origin_of c.args.part.now))) in
    subst P (sym c.in-UnderGuard.is) c.put_origin-in-UnderGuard.ensures

pub put_below-returns-in-InChain : goal.put_below-returns-in-InChain
put_below-returns-in-InChain g t c =
    let P : Passage g.row.A.Denot → Type 0 = λ p. Puts c.put_origin-in-InChain.result c.args.writer.now c.put_origin-in-InChain.new.writer (origin_fields (names_of c.args.names.now) (map side_of c.args.way.now) (pure.Below (passage_of p) (origin_of c.args.part.now))) in
    subst P (sym c.in-InChain.is) c.put_origin-in-InChain.ensures

pub put_below-returns-in-SideEnds : goal.put_below-returns-in-SideEnds
put_below-returns-in-SideEnds g t c =
    let P : Passage g.row.A.Denot → Type 0 = λ p. Puts c.put_on_side-in-SideEnds.result c.args.writer.now c.put_on_side-in-SideEnds.new.writer (origin_fields (names_of c.args.names.now) (map side_of c.args.way.now) (pure.Below (passage_of p) (origin_of c.args.part.now))) in
    subst P (sym c.in-SideEnds.is) c.put_on_side-in-SideEnds.ensures

pub put_below-returns-in-Hides : goal.put_below-returns-in-Hides
put_below-returns-in-Hides g t c =
    let P : Passage g.row.A.Denot → Type 0 = λ p. Puts c.put_done.result c.args.writer.now c.put_done.new.writer (origin_fields (names_of c.args.names.now) (map side_of c.args.way.now) (pure.Below (passage_of p) (origin_of c.args.part.now))) in
    subst P (sym c.in-Hides.is) c.put_done.ensures

pub put_below-returns-in-Renames : goal.put_below-returns-in-Renames
put_below-returns-in-Renames g t c =
    let P : Passage g.row.A.Denot → Type 0 = λ p. Puts c.put_done-in-Renames.result c.args.writer.now c.put_done-in-Renames.new.writer (origin_fields (names_of c.args.names.now) (map side_of c.args.way.now) (pure.Below (passage_of p) (origin_of c.args.part.now))) in
    subst P (sym c.in-Renames.is) c.put_done-in-Renames.ensures
