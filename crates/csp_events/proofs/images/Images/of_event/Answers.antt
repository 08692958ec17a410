-- What both lists make of the event, or itself.
use Rattle.std.proofs.Common.{sym, ◌∙◌, inl, inr, lit<}
use Rattle.csp_value.specs.Action.{event_of}
use Rattle.csp_events.specs.Imaging.{found_images}
use Rattle.csp_events.proofs.Naming.{found_in_both, no_items, other_images, own_image, some_items}
use Rattle.csp_events.proofs.images.Images.of_event.Goals as goal

pub returns-then-not-is_empty : goal.returns-then-not-is_empty
returns-then-not-is_empty g c =
    let all = c.add_by_events.new.found in
    other_images c.args.event (found_images c.args.self.now (event_of c.args.event)) all.items
    (found_in_both c.args.self.now (event_of c.args.event) c.new-found.result.items c.add_by_channels.new.found.items all.items c.new-found.ensures.items c.in_ok-add_by_channels.ensures c.in_ok-add_by_events.ensures)
    (some_items all (sym c.is_empty.ensures ∙ c.if-not-is_empty.true))

pub returns : goal.returns
returns g c =
    let all = c.add_by_events.new.found in
    own_image c.args.event (found_images c.args.self.now (event_of c.args.event)) all.items
    (found_in_both c.args.self.now (event_of c.args.event) c.new-found.result.items c.add_by_channels.new.found.items all.items c.new-found.ensures.items c.in_ok-add_by_channels.ensures c.in_ok-add_by_events.ensures) c.push.new.self.items
    (no_items all (sym c.is_empty.ensures ∙ c.if-not-is_empty.false)) c.in_ok-push.ensures.items

pub array_drop-event-requires : goal.array_drop-event-requires
array_drop-event-requires g c = elim g.met.A.AllocHandle.small [ inl e ↦ rw (e.0, e.1) (lit< tt) | inr e ↦ rw (e.0, e.1) (lit< tt) ]

pub array_drop-event-requires-in_err-add_by_events : goal.array_drop-event-requires-in_err-add_by_events
array_drop-event-requires-in_err-add_by_events g c = elim g.met.A.AllocHandle.small [ inl e ↦ rw (e.0, e.1) (lit< tt) | inr e ↦ rw (e.0, e.1) (lit< tt) ]

pub array_drop-event-requires-then-not-is_empty : goal.array_drop-event-requires-then-not-is_empty
array_drop-event-requires-then-not-is_empty g c = elim g.met.A.AllocHandle.small [ inl e ↦ rw (e.0, e.1) (lit< tt) | inr e ↦ rw (e.0, e.1) (lit< tt) ]
