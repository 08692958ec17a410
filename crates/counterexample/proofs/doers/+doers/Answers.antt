-- The parts of each form of an origin. The part is smaller than what it is a part of.
use Rattle.std.proofs.Common.{◌≡◌, ◌+◌, ◌*◌, ◌<◌, ◌++◌, map, IfOk, List, refl, sym, subst, ◌∙◌, ap, inl, inr, lit≤, arith}
use Rattle.std.proofs.lemmas.List.{map-append}
use Rattle.theory_syntax.specs.Value.{Ev, Tau, Tick}
use Rattle.theory_origins.specs.Action.{action_of}
use Rattle.theory_origins.specs.Doers.{all_further, doers}
use Rattle.theory_origins.specs.Origin as pure
use Rattle.csp_value.specs.Action.{event_of}
use Rattle.csp_moves.specs.Origin.{origin_of}
use Rattle.csp_moves.specs.Passage.{passage_of, side_of}
use Rattle.csp_moves.specs.declared.origin.Origin.{Origin}
use Rattle.csp_moves.specs.declared.passage.Passage.{Passage}
use Rattle.csp_moves.specs.declared.passage.Side.{Side}
use Rattle.csp_moves.proofs.Origins.{of_below, of_chooses, of_does, of_ends, of_slides, of_together, of_unfolds}
use Rattle.counterexample.specs.Doers.{all_behind, doer_of, doers_listed}
use Rattle.counterexample.proofs.DoersBehind.{both_behind, done, done_further}
use Rattle.counterexample.proofs.Sizes.{origin_size}
use Rattle.counterexample.proofs.doers.+doers.Goals as goal

pub doers_below-event_in-requires : goal.doers_below-event_in-requires
doers_below-event_in-requires g t c = elim g.met.A.AllocHandle.small [ inl e ↦ rw (e.0, e.1) (search (lit≤)) | inr e ↦ rw (e.0, e.1) (search (lit≤)) ]

pub doers_below-by_itself-requires : goal.doers_below-by_itself-requires
doers_below-by_itself-requires g t c = elim g.met.A.AllocHandle.small [ inl e ↦ rw (e.0, e.1) (search (lit≤)) | inr e ↦ rw (e.0, e.1) (search (lit≤)) ]

pub doers_below-event_in-requires-in-UnderGuard : goal.doers_below-event_in-requires-in-UnderGuard
doers_below-event_in-requires-in-UnderGuard g t c = elim g.met.A.AllocHandle.small [ inl e ↦ rw (e.0, e.1) (search (lit≤)) | inr e ↦ rw (e.0, e.1) (search (lit≤)) ]

pub doers_below-by_itself-requires-in-UnderGuard : goal.doers_below-by_itself-requires-in-UnderGuard
doers_below-by_itself-requires-in-UnderGuard g t c = elim g.met.A.AllocHandle.small [ inl e ↦ rw (e.0, e.1) (search (lit≤)) | inr e ↦ rw (e.0, e.1) (search (lit≤)) ]

pub doers_below-event_in-requires-in-InChain : goal.doers_below-event_in-requires-in-InChain
doers_below-event_in-requires-in-InChain g t c = elim g.met.A.AllocHandle.small [ inl e ↦ rw (e.0, e.1) (search (lit≤)) | inr e ↦ rw (e.0, e.1) (search (lit≤)) ]

pub doers_below-by_itself-requires-in-InChain : goal.doers_below-by_itself-requires-in-InChain
doers_below-by_itself-requires-in-InChain g t c = elim g.met.A.AllocHandle.small [ inl e ↦ rw (e.0, e.1) (search (lit≤)) | inr e ↦ rw (e.0, e.1) (search (lit≤)) ]

pub doers_below-by_itself-requires-in-SideEnds : goal.doers_below-by_itself-requires-in-SideEnds
doers_below-by_itself-requires-in-SideEnds g t c = elim g.met.A.AllocHandle.small [ inl e ↦ rw (e.0, e.1) (search (lit≤)) | inr e ↦ rw (e.0, e.1) (search (lit≤)) ]

pub doers_in-by_itself-requires : goal.doers_in-by_itself-requires
doers_in-by_itself-requires g t c = elim g.met.A.AllocHandle.small [ inl e ↦ rw (e.0, e.1) (search (lit≤)) | inr e ↦ rw (e.0, e.1) (search (lit≤)) ]

pub doers_in-by_itself-requires-in-Ends : goal.doers_in-by_itself-requires-in-Ends
doers_in-by_itself-requires-in-Ends g t c = elim g.met.A.AllocHandle.small [ inl e ↦ rw (e.0, e.1) (search (lit≤)) | inr e ↦ rw (e.0, e.1) (search (lit≤)) ]

pub doers_in-by_itself-requires-in-Unfolds : goal.doers_in-by_itself-requires-in-Unfolds
doers_in-by_itself-requires-in-Unfolds g t c = elim g.met.A.AllocHandle.small [ inl e ↦ rw (e.0, e.1) (search (lit≤)) | inr e ↦ rw (e.0, e.1) (search (lit≤)) ]

pub doers_in-by_itself-requires-in-Chooses : goal.doers_in-by_itself-requires-in-Chooses
doers_in-by_itself-requires-in-Chooses g t c = elim g.met.A.AllocHandle.small [ inl e ↦ rw (e.0, e.1) (search (lit≤)) | inr e ↦ rw (e.0, e.1) (search (lit≤)) ]

pub doers_in-by_itself-requires-in-Slides : goal.doers_in-by_itself-requires-in-Slides
doers_in-by_itself-requires-in-Slides g t c = elim g.met.A.AllocHandle.small [ inl e ↦ rw (e.0, e.1) (search (lit≤)) | inr e ↦ rw (e.0, e.1) (search (lit≤)) ]

pub doers_below-returns-in-OnBranch : goal.doers_below-returns-in-OnBranch
doers_below-returns-in-OnBranch g t c =
    let part = origin_of c.args.part.now in
    let same = sym (ap (λ (p : Passage g.row.A.Denot). doers (pure.Below (passage_of p) part)) c.in-OnBranch.is) in
    done c.by_itself.result (map side_of c.args.way.now) _ (action_of part) (pure.Below (passage_of c.args.passage.now) part) c.event_in.ensures same c.by_itself.ensures

pub doers_below-returns-in-UnderGuard : goal.doers_below-returns-in-UnderGuard
doers_below-returns-in-UnderGuard g t c =
    let part = origin_of c.args.part.now in
    let same = sym (ap (λ (p : Passage g.row.A.Denot). doers (pure.Below (passage_of p) part)) c.in-UnderGuard.is) in
    done c.by_itself-in-UnderGuard.result (map side_of c.args.way.now) _ (action_of part) (pure.Below (passage_of c.args.passage.now) part) c.event_in-in-UnderGuard.ensures same c.by_itself-in-UnderGuard.ensures

pub doers_below-returns-in-InChain : goal.doers_below-returns-in-InChain
doers_below-returns-in-InChain g t c =
    let part = origin_of c.args.part.now in
    let same = sym (ap (λ (p : Passage g.row.A.Denot). doers (pure.Below (passage_of p) part)) c.in-InChain.is) in
    done c.by_itself-in-InChain.result (map side_of c.args.way.now) _ (action_of part) (pure.Below (passage_of c.args.passage.now) part) c.event_in-in-InChain.ensures same c.by_itself-in-InChain.ensures

pub doers_below-returns-in-SideEnds : goal.doers_below-returns-in-SideEnds
doers_below-returns-in-SideEnds g t c =
    let part = origin_of c.args.part.now in
    let same = sym (ap (λ (p : Passage g.row.A.Denot). doers (pure.Below (passage_of p) part)) c.in-SideEnds.is) in
    done c.by_itself-in-SideEnds.result (map side_of c.args.way.now) _ Tau (pure.Below (passage_of c.args.passage.now) part) refl same c.by_itself-in-SideEnds.ensures

pub doers_below-returns-in-OnSide : goal.doers_below-returns-in-OnSide
doers_below-returns-in-OnSide g t c =
    let F : Passage g.row.A.Denot → Type 0 = λ p. IfOk c.doers_on.result (λ ds. doers_listed ds.items ≡ all_behind (map side_of c.args.way.now) (doers (pure.Below (passage_of p) (origin_of c.args.part.now)))) in
    subst F (sym c.in-OnSide.is) c.doers_on.ensures

pub doers_below-returns-in-InBody : goal.doers_below-returns-in-InBody
doers_below-returns-in-InBody g t c =
    let F : Passage g.row.A.Denot → Type 0 = λ p. IfOk c.doers_in.result (λ ds. doers_listed ds.items ≡ all_behind (map side_of c.args.way.now) (doers (pure.Below (passage_of p) (origin_of c.args.part.now)))) in
    subst F (sym c.in-InBody.is) c.doers_in.ensures

pub doers_below-returns-in-Hides : goal.doers_below-returns-in-Hides
doers_below-returns-in-Hides g t c =
    let F : Passage g.row.A.Denot → Type 0 = λ p. IfOk c.doers_in-in-Hides.result (λ ds. doers_listed ds.items ≡ all_behind (map side_of c.args.way.now) (doers (pure.Below (passage_of p) (origin_of c.args.part.now)))) in
    subst F (sym c.in-Hides.is) c.doers_in-in-Hides.ensures

pub doers_below-returns-in-Renames : goal.doers_below-returns-in-Renames
doers_below-returns-in-Renames g t c =
    let F : Passage g.row.A.Denot → Type 0 = λ p. IfOk c.doers_in-in-Renames.result (λ ds. doers_listed ds.items ≡ all_behind (map side_of c.args.way.now) (doers (pure.Below (passage_of p) (origin_of c.args.part.now)))) in
    subst F (sym c.in-Renames.is) c.doers_in-in-Renames.ensures

pub doers_in-returns-in-Does : goal.doers_in-returns-in-Does
doers_in-returns-in-Does g t c =
    let same = sym (ap doers (ap origin_of c.in-Does.is ∙ of_does g.row.A.Denot c.in-Does.event)) in
    done c.by_itself.result (map side_of c.args.way.now) _ (Ev (event_of c.in-Does.event)) (origin_of c.args.origin.now) refl same c.by_itself.ensures

pub doers_in-returns-in-Ends : goal.doers_in-returns-in-Ends
doers_in-returns-in-Ends g t c =
    let same = sym (ap doers (ap origin_of c.in-Ends.is ∙ of_ends g.row.A.Denot)) in
    done c.by_itself-in-Ends.result (map side_of c.args.way.now) _ Tick (origin_of c.args.origin.now) refl same c.by_itself-in-Ends.ensures

pub doers_in-returns-in-Unfolds : goal.doers_in-returns-in-Unfolds
doers_in-returns-in-Unfolds g t c =
    let same = sym (ap doers (ap origin_of c.in-Unfolds.is ∙ of_unfolds g.row.A.Denot c.in-Unfolds.field-0)) in
    done c.by_itself-in-Unfolds.result (map side_of c.args.way.now) _ Tau (origin_of c.args.origin.now) refl same c.by_itself-in-Unfolds.ensures

pub doers_in-returns-in-Chooses : goal.doers_in-returns-in-Chooses
doers_in-returns-in-Chooses g t c =
    let same = sym (ap doers (ap origin_of c.in-Chooses.is ∙ of_chooses g.row.A.Denot c.in-Chooses.field-0)) in
    done c.by_itself-in-Chooses.result (map side_of c.args.way.now) _ Tau (origin_of c.args.origin.now) refl same c.by_itself-in-Chooses.ensures

pub doers_in-returns-in-Slides : goal.doers_in-returns-in-Slides
doers_in-returns-in-Slides g t c =
    let same = sym (ap doers (ap origin_of c.in-Slides.is ∙ of_slides g.row.A.Denot)) in
    done c.by_itself-in-Slides.result (map side_of c.args.way.now) _ Tau (origin_of c.args.origin.now) refl same c.by_itself-in-Slides.ensures

pub doers_in-doers_below-requires : goal.doers_in-doers_below-requires
doers_in-doers_below-requires g t c κs within =
    let size = λ (o : Origin g.row.A.Denot). origin_size (origin_of o) in
    let whole = ap size c.in-Below.is ∙ ap origin_size (of_below g.row.A.Denot c.in-Below.passage c.in-Below.part) in
    let part = ap size c.deref.ensures in
    let smaller : 3 * origin_size (origin_of c.deref.result.now) + 2 < 3 * origin_size (origin_of c.args.origin.now) = omega (arith, whole, part) in
    (omega (arith, c.requires, smaller), (within, elim g.met.A.AllocHandle.small [ inl e ↦ rw (e.0, e.1) (search (lit≤)) | inr e ↦ rw (e.0, e.1) (search (lit≤)) ]))

pub doers_in-doers_on-requires : goal.doers_in-doers_on-requires
doers_in-doers_on-requires g t c κs within =
    let size = λ (o : Origin g.row.A.Denot). origin_size (origin_of o) in
    let whole = ap size c.in-Together.is ∙ ap origin_size (of_together g.row.A.Denot c.in-Together.left c.in-Together.right) in
    let part = ap size c.deref-in-Together.ensures in
    let smaller : 3 * origin_size (origin_of c.deref-in-Together.result.now) + 1 < 3 * origin_size (origin_of c.args.origin.now) = omega (arith, whole, part) in
    (omega (arith, c.requires, smaller), (within, elim g.met.A.AllocHandle.small [ inl e ↦ rw (e.0, e.1) (search (lit≤)) | inr e ↦ rw (e.0, e.1) (search (lit≤)) ]))

pub doers_in-doers_on-requires-in-Together : goal.doers_in-doers_on-requires-in-Together
doers_in-doers_on-requires-in-Together g t c κs within =
    let size = λ (o : Origin g.row.A.Denot). origin_size (origin_of o) in
    let whole = ap size c.in-Together.is ∙ ap origin_size (of_together g.row.A.Denot c.in-Together.left c.in-Together.right) in
    let part = ap size c.deref-in-Together-2.ensures in
    let smaller : 3 * origin_size (origin_of c.deref-in-Together-2.result.now) + 1 < 3 * origin_size (origin_of c.args.origin.now) = omega (arith, whole, part) in
    (omega (arith, c.requires, smaller), (within, elim g.met.A.AllocHandle.small [ inl e ↦ rw (e.0, e.1) (search (lit≤)) | inr e ↦ rw (e.0, e.1) (search (lit≤)) ]))

pub doers_in-returns-in-Below : goal.doers_in-returns-in-Below
doers_in-returns-in-Below g t c =
    let passage = c.in-Below.passage in
    let same : pure.Below (passage_of passage) (origin_of c.deref.result.now) ≡ origin_of c.args.origin.now =
    ap (λ (o : Origin g.row.A.Denot). pure.Below (passage_of passage) (origin_of o)) c.deref.ensures
    ∙ sym (ap origin_of c.in-Below.is ∙ of_below g.row.A.Denot passage c.in-Below.part) in
    let F : pure.Origin → Type 0 = λ o. IfOk c.doers_below.result (λ ds. doers_listed ds.items ≡ all_behind (map side_of c.args.way.now) (doers o)) in
    subst F same c.doers_below.ensures

pub doers_in-returns-in_ok-append-in-Together : goal.doers_in-returns-in_ok-append-in-Together
doers_in-returns-in_ok-append-in-Together g t c =
    let way = map side_of c.args.way.now in
    let one = all_further pure.Left (doers (origin_of c.deref-in-Together.result.now)) in
    let other = all_further pure.Right (doers (origin_of c.deref-in-Together-2.result.now)) in
    let together = ap origin_of c.in-Together.is ∙ of_together g.row.A.Denot c.in-Together.left c.in-Together.right in
    let left = ap (λ (o : Origin g.row.A.Denot). all_further pure.Left (doers (origin_of o))) c.deref-in-Together.ensures in
    let right = ap (λ (o : Origin g.row.A.Denot). all_further pure.Right (doers (origin_of o))) c.deref-in-Together-2.ensures in
    ap doers_listed c.in_ok-append-in-Together.ensures.items ∙ map-append doer_of c.in_ok-all-in-Together.all.items c.in_ok-others-in-Together.others.items
    ∙ ap (λ ds. ds ++ doers_listed c.in_ok-others-in-Together.others.items) c.in_ok-all-in-Together.ensures ∙ ap (λ ds. all_behind way one ++ ds) c.in_ok-others-in-Together.ensures
    ∙ sym (both_behind way one other) ∙ ap (λ ds. all_behind way (ds ++ other)) left ∙ ap (λ ds. all_behind way (all_further pure.Left (doers (origin_of c.in-Together.left.value)) ++ ds)) right
    ∙ sym (ap (λ o. all_behind way (doers o)) together)

pub doers_on-returns : goal.doers_on-returns
doers_on-returns g t c =
    let longer = ap (λ (w : List Side). map side_of w) c.deref.ensures.value ∙ c.in_ok-further.ensures in
    done_further c.doers_in.result (map side_of c.args.way.now) (map side_of c.deref.result.now) (side_of c.args.side) (origin_of c.args.part.now) longer c.doers_in.ensures
