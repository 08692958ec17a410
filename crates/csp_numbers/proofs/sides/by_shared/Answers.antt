use Rattle.std.proofs.Common.{not, inl, inr, lit<, ap, arith}
use Rattle.csp_events.specs.Testing.{test_of}
use Rattle.csp_numbers.proofs.Marks.{all_marked, one_event_marked}
use Rattle.csp_numbers.proofs.sides.by_shared.Goals as goal

pub holds-is_shared-requires : goal.holds-is_shared-requires
holds-is_shared-requires g c = (elim g.met.A.AllocHandle.small [ inl e ↦ rw (e.0, e.1) (lit< tt) | inr e ↦ rw (e.0, e.1) (lit< tt) ], c.requires)

pub loop-event-init : goal.loop-event-init
loop-event-init g c = record { left_free = c.no_bits-bits.ensures.left_free; right_free = c.no_bits-bits.ensures.right_free; shared = c.no_bits-bits.ensures.shared }

pub loop-event-preserved : goal.loop-event-preserved
loop-event-preserved g c =
    let test = test_of c.args.shared.now in
    one_event_marked c.events-events.result.now c.loop-event.event-index c.event-item.result c.loop-event-test.true c.event-item.is (λ e. not (test e)) (λ e. not (test e)) test (not c.holds-is_shared.result) (not c.holds-is_shared.result) c.holds-is_shared.result c.loop-event.bits c.add_event.new.bits
    (ap not c.holds-is_shared.ensures) (ap not c.holds-is_shared.ensures) c.holds-is_shared.ensures c.loop-event.invariant c.in_ok-add_event.ensures

pub returns : goal.returns
returns g c =
    let test = test_of c.args.shared.now in
    all_marked c.events-events.result.now c.loop-event.event-index c.args.alphabet.now (λ e. not (test e)) (λ e. not (test e)) test c.loop-event.bits c.loop-event.invariant (omega (arith, c.loop-event-test.false)) c.events-events.ensures.listed

pub events-events-requires : goal.events-events-requires
events-events-requires g c = elim g.met.A.AllocHandle.small [ inl e ↦ rw (e.0, e.1) (lit< tt) | inr e ↦ rw (e.0, e.1) (lit< tt) ]
