use Rattle.std.proofs.Common.{◌&&◌, not, inl, inr, lit<, ◌∙◌, ap₂, arith}
use Rattle.csp_events.specs.Testing.{test_of}
use Rattle.csp_numbers.proofs.Marks.{all_marked, one_event_marked}
use Rattle.csp_numbers.proofs.sides.by_own_sets.Goals as goal

pub holds-on_left-requires : goal.holds-on_left-requires
holds-on_left-requires g c = (elim g.met.A.AllocHandle.small [ inl e ↦ rw (e.0, e.1) (lit< tt) | inr e ↦ rw (e.0, e.1) (lit< tt) ], c.requires.left)

pub holds-on_right-requires : goal.holds-on_right-requires
holds-on_right-requires g c = (elim g.met.A.AllocHandle.small [ inl e ↦ rw (e.0, e.1) (lit< tt) | inr e ↦ rw (e.0, e.1) (lit< tt) ], c.requires.right)

pub loop-event-init : goal.loop-event-init
loop-event-init g c = record { left_free = c.no_bits-bits.ensures.left_free; right_free = c.no_bits-bits.ensures.right_free; shared = c.no_bits-bits.ensures.shared }

pub loop-event-preserved : goal.loop-event-preserved
loop-event-preserved g c =
    let f = test_of c.args.left.now in
    let h = test_of c.args.right.now in
    one_event_marked c.events-events.result.now c.loop-event.event-index c.event-item.result c.loop-event-test.true c.event-item.is (λ e. f e && not (h e)) (λ e. h e && not (f e)) (λ e. f e && h e)
    c.is_in_first-left_free.result c.is_in_first-right_free.result c.is_in_both-shared.result c.loop-event.bits c.add_event.new.bits
    (c.is_in_first-left_free.ensures ∙ ap₂ (λ x y. x && not y) c.holds-on_left.ensures c.holds-on_right.ensures)
    (c.is_in_first-right_free.ensures ∙ ap₂ (λ x y. x && not y) c.holds-on_right.ensures c.holds-on_left.ensures)
    (c.is_in_both-shared.ensures ∙ ap₂ ◌&&◌ c.holds-on_left.ensures c.holds-on_right.ensures) c.loop-event.invariant c.in_ok-add_event.ensures

pub returns : goal.returns
returns g c =
    let f = test_of c.args.left.now in
    let h = test_of c.args.right.now in
    all_marked c.events-events.result.now c.loop-event.event-index c.args.alphabet.now (λ e. f e && not (h e)) (λ e. h e && not (f e)) (λ e. f e && h e) c.loop-event.bits c.loop-event.invariant (omega (arith, c.loop-event-test.false)) c.events-events.ensures.listed

pub events-events-requires : goal.events-events-requires
events-events-requires g c = elim g.met.A.AllocHandle.small [ inl e ↦ rw (e.0, e.1) (lit< tt) | inr e ↦ rw (e.0, e.1) (lit< tt) ]
