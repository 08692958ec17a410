-- The event of each form of an origin. The part is smaller than what it is a part of.
use Rattle.std.proofs.Common.{◌≡◌, ◌+◌, ◌*◌, ◌<◌, sym, ◌∙◌, ap, inl, inr, lit≤, arith}
use Rattle.theory_origins.specs.Action as action
use Rattle.theory_origins.specs.Origin as pure
use Rattle.csp_moves.specs.Origin.{origin_of}
use Rattle.csp_moves.specs.Passage.{passage_of}
use Rattle.csp_moves.specs.declared.origin.Origin.{Origin}
use Rattle.csp_moves.proofs.Origins.{of_below, of_chooses, of_does, of_ends, of_slides, of_together, of_unfolds}
use Rattle.counterexample.specs.Doers.{seen_event}
use Rattle.counterexample.proofs.Sizes.{origin_size}
use Rattle.counterexample.proofs.doers.+seen.Goals as goal

pub event_in-event_above-requires : goal.event_in-event_above-requires
event_in-event_above-requires g t c κs within =
    let size = λ (o : Origin g.row.A.Denot). origin_size (origin_of o) in
    let whole = ap size c.in-Below.is ∙ ap origin_size (of_below g.row.A.Denot c.in-Below.passage c.in-Below.part) in
    let part = ap size c.deref.ensures in
    let smaller : 2 * origin_size (origin_of c.deref.result.now) + 1 < 2 * origin_size (origin_of c.args.origin.now) = omega (arith, whole, part) in
    (omega (arith, c.requires, smaller), (within, elim g.met.A.AllocHandle.small [ inl e ↦ rw (e.0, e.1) (search (lit≤)) | inr e ↦ rw (e.0, e.1) (search (lit≤)) ]))

pub event_in-event_in-requires : goal.event_in-event_in-requires
event_in-event_in-requires g t c κs within =
    let size = λ (o : Origin g.row.A.Denot). origin_size (origin_of o) in
    let whole = ap size c.in-Together.is ∙ ap origin_size (of_together g.row.A.Denot c.in-Together.left c.in-Together.field-1) in
    let part = ap size c.deref-in-Together.ensures in
    let smaller : 2 * origin_size (origin_of c.deref-in-Together.result.now) < 2 * origin_size (origin_of c.args.origin.now) = omega (arith, whole, part) in
    (omega (arith, c.requires, smaller), (within, elim g.met.A.AllocHandle.small [ inl e ↦ rw (e.0, e.1) (search (lit≤)) | inr e ↦ rw (e.0, e.1) (search (lit≤)) ]))

pub event_in-returns-in-Does : goal.event_in-returns-in-Does
event_in-returns-in-Does g t c = ap (λ o. seen_event (action.action_of o)) (ap origin_of c.in-Does.is ∙ of_does g.row.A.Denot c.in-Does.event)

pub event_in-returns-in-Ends : goal.event_in-returns-in-Ends
event_in-returns-in-Ends g t c = ap (λ o. seen_event (action.action_of o)) (ap origin_of c.in-Ends.is ∙ of_ends g.row.A.Denot)

pub event_in-returns-in-Unfolds : goal.event_in-returns-in-Unfolds
event_in-returns-in-Unfolds g t c = ap (λ o. seen_event (action.action_of o)) (ap origin_of c.in-Unfolds.is ∙ of_unfolds g.row.A.Denot c.in-Unfolds.field-0)

pub event_in-returns-in-Chooses : goal.event_in-returns-in-Chooses
event_in-returns-in-Chooses g t c = ap (λ o. seen_event (action.action_of o)) (ap origin_of c.in-Chooses.is ∙ of_chooses g.row.A.Denot c.in-Chooses.field-0)

pub event_in-returns-in-Slides : goal.event_in-returns-in-Slides
event_in-returns-in-Slides g t c = ap (λ o. seen_event (action.action_of o)) (ap origin_of c.in-Slides.is ∙ of_slides g.row.A.Denot)

pub event_in-returns-in-Below : goal.event_in-returns-in-Below
event_in-returns-in-Below g t c =
    let passage = c.in-Below.passage in
    let same : pure.Below (passage_of passage) (origin_of c.deref.result.now) ≡ origin_of c.args.origin.now =
    ap (λ (o : Origin g.row.A.Denot). pure.Below (passage_of passage) (origin_of o)) c.deref.ensures
    ∙ sym (ap origin_of c.in-Below.is ∙ of_below g.row.A.Denot passage c.in-Below.part) in
    ap (λ o. seen_event (action.action_of o)) (sym same) ∙ c.event_above.ensures

pub event_in-returns-in-Together : goal.event_in-returns-in-Together
event_in-returns-in-Together g t c =
    let of = λ (o : Origin g.row.A.Denot). seen_event (action.action_of (origin_of o)) in
    ap (λ o. seen_event (action.action_of o)) (ap origin_of c.in-Together.is ∙ of_together g.row.A.Denot c.in-Together.left c.in-Together.field-1)
    ∙ sym (ap of c.deref-in-Together.ensures) ∙ c.event_in.ensures
