use Rattle.std.proofs.Common.{inl, inr, lit<, arith}
use Rattle.csp_value.specs.Action.{event_of}
use Rattle.csp_numbers.proofs.Imaging.{all_found, one_event_found}
use Rattle.csp_numbers.proofs.Marks.{past_all, stands_at}
use Rattle.csp_numbers.proofs.images.images_by.Goals as goal

pub images_of_event-requires : goal.images_of_event-requires
images_of_event-requires g c = (
  elim g.met.A.AllocHandle.small [ inl e ↦ rw (e.0, e.1) (lit< tt) | inr e ↦ rw (e.0, e.1) (lit< tt) ],
  (
    c.events-events.ensures.numbered.rising,
    (stands_at c.events-events.result.now c.args.alphabet.now c.loop-place.place c.index-events-place.result c.events-events.ensures.listed c.loop-place-test.true c.index-events-place.is, c.requires),
  ),
)

pub loop-place-preserved : goal.loop-place-preserved
loop-place-preserved g c =
    one_event_found c.args.alphabet.now c.args.pairs.now c.loop-place.place (event_of c.index-events-place.result) c.loop-place.images.items c.push.new.self.items c.in_ok-found.found c.loop-place.invariant
    (stands_at c.events-events.result.now c.args.alphabet.now c.loop-place.place c.index-events-place.result c.events-events.ensures.listed c.loop-place-test.true c.index-events-place.is) c.in_ok-found.ensures c.in_ok-push.ensures.items

pub returns : goal.returns
returns g c =
    all_found c.args.alphabet.now c.args.pairs.now c.loop-place.place (record { images = c.loop-place.images }) c.loop-place.invariant (past_all c.events-events.result.now c.args.alphabet.now c.loop-place.place c.events-events.ensures.listed (omega (arith, c.loop-place-test.false)))
