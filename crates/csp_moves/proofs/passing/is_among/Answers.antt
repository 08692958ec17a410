-- One more event is the one, or is not.
use Rattle.std.proofs.Common.{◌≡◌, true, false, refl, sym, ◌∙◌}
use Rattle.csp_value.specs.Action.{event_of}
use Rattle.csp_moves.proofs.Looked.{none_at_all, none_before, none_so_far, one_there}
use Rattle.csp_moves.proofs.passing.is_among.Goals as goal

pub loop-other-init : goal.loop-other-init
loop-other-init g c = none_before event_of (event_of c.args.event.now) c.args.events.now

pub returns-then-equal_events : goal.returns-then-equal_events
returns-then-equal_events g c = (
  λ told. one_there event_of (event_of c.args.event.now) c.args.events.now c.loop-other.other-index c.other-item.result c.loop-other-test.true c.other-item.is (c.equal_events.ensures.0 c.if-equal_events.true),
  λ has. refl,
)

pub loop-other-preserved : goal.loop-other-preserved
loop-other-preserved g c =
    none_so_far event_of (event_of c.args.event.now) c.args.events.now c.loop-other.other-index c.other-item.result c.loop-other-test.true c.other-item.is
    (λ same. let e : true ≡ false = sym (c.equal_events.ensures.1 same) ∙ c.if-equal_events.false in cc e) c.loop-other.invariant

pub returns : goal.returns
returns g c = (
  λ told. absurd (cc told),
  λ has. absurd (none_at_all event_of (event_of c.args.event.now) c.args.events.now c.loop-other.other-index c.loop-other-test.false c.loop-other.invariant has),
)
