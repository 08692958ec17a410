use Rattle.std.proofs.Common.{inl, inr, lit<}
use Rattle.csp_events.specs.Testing.{test_of}
use Rattle.csp_numbers.proofs.Marks.{one_mark_more}
use Rattle.csp_numbers.proofs.bits.bits_of.Goals as goal

pub holds-mark-requires : goal.holds-mark-requires
holds-mark-requires g c = (elim g.met.A.AllocHandle.small [ inl e ↦ rw (e.0, e.1) (lit< tt) | inr e ↦ rw (e.0, e.1) (lit< tt) ], c.requires)

pub loop-event-preserved : goal.loop-event-preserved
loop-event-preserved g c =
    one_mark_more c.events-events.result.now c.loop-event.event-index c.event-item.result c.loop-event-test.true c.event-item.is (test_of c.args.test.now) c.holds-mark.result c.loop-event.marks.items c.push.new.self.items c.holds-mark.ensures c.loop-event.invariant c.in_ok-push.ensures.items
