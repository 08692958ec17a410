-- A pair adds the event on its first channel, or nothing.
use Rattle.std.proofs.Common.{map, sym, ◌∙◌}
use Rattle.csp_value.specs.Action.{event_of}
use Rattle.csp_events.specs.Sources.{channel_source}
use Rattle.csp_events.proofs.Naming.{one_image}
use Rattle.csp_events.proofs.Ranging.{one_made_at}
use Rattle.csp_events.proofs.SourcesOf.{none_made_at, none_of}
use Rattle.csp_events.proofs.images.Images.add_channel_sources.Goals as goal
use Rattle.csp_events.proofs.images.Images.add_channel_sources.Goals.{then-eq+in_ok-on_channel+in_ok-push, else-eq}

pub loop-pair-preserved : goal.loop-pair-preserved
loop-pair-preserved g c =
    let f = event_of c.args.image.now in
    let i = c.loop-pair.pair-index in
    let start = map event_of c.args.found.now.items in
    elim c.if-eq.branch [
      | then-eq+in_ok-on_channel+in_ok-push w ↦
          let same = sym c.eq.ensures ∙ w.if-eq.true in
          rw w.found-is (one_made_at event_of (channel_source f) _ i _ start c.loop-pair.found.items w.push.new.self.items w.in_ok-on_channel.field-0 c.loop-pair.invariant c.loop-pair-test.true
          (one_image _ _ (event_of w.in_ok-on_channel.field-0) same w.in_ok-on_channel.ensures) w.in_ok-push.ensures.items)
      | else-eq w ↦
          let other = sym c.eq.ensures ∙ w.if-eq.false in
          rw w.found-is (none_made_at event_of (channel_source f) _ i _ start c.loop-pair.found.items c.loop-pair.invariant c.loop-pair-test.true (none_of _ _ other))
    ]
