-- A pair adds its first event, or nothing.
use Rattle.std.proofs.Common.{map, ◌++◌, ◌∙◌, ap, flat_map, arith}
use Rattle.csp_value.specs.Action.{event_of}
use Rattle.csp_events.specs.Sources.{event_source}
use Rattle.csp_events.proofs.Naming.{one_image}
use Rattle.csp_events.proofs.Ranging.{one_made}
use Rattle.csp_events.proofs.SourcesOf.{all_taken, none_made, none_of, told_other, told_same}
use Rattle.csp_events.proofs.images.Images.add_event_sources.Goals as goal
use Rattle.csp_events.proofs.images.Images.add_event_sources.Goals.{then-equal_events+in_ok-try_copy+in_ok-push, else-equal_events}

pub loop-pair-preserved : goal.loop-pair-preserved
loop-pair-preserved g c =
    let f = event_of c.args.image.now in
    let p = c.pair-item.result in
    let i = c.loop-pair.pair-index in
    let start = map event_of c.args.found.now.items in
    elim c.if-equal_events.branch [
      | then-equal_events+in_ok-try_copy+in_ok-push w ↦
          let same = told_same c.equal_events.result f (event_of p.1) c.equal_events.ensures w.if-equal_events.true in
          rw w.found-is (one_made event_of (event_source f) _ i p start c.loop-pair.found.items w.push.new.self.items w.in_ok-try_copy.field-0 c.loop-pair.invariant c.loop-pair-test.true c.pair-item.is
          (one_image _ (event_of p.0) (event_of w.in_ok-try_copy.field-0) same w.in_ok-try_copy.ensures) w.in_ok-push.ensures.items)
      | else-equal_events w ↦
          let other = told_other c.equal_events.result f (event_of p.1) c.equal_events.ensures w.if-equal_events.false in
          rw w.found-is (none_made event_of (event_source f) _ i p start c.loop-pair.found.items c.loop-pair.invariant c.loop-pair-test.true c.pair-item.is (none_of _ (event_of p.0) other))
    ]

pub returns : goal.returns
returns g c =
    let f = event_of c.args.image.now in
    let past = c.loop-pair-test.false in
    c.loop-pair.invariant
    ∙ ap (λ es. map event_of c.args.found.now.items ++ es) (all_taken (event_source f) c.deref-pair-items.result.now c.loop-pair.pair-index (omega (arith, past)) ∙ ap (flat_map (event_source f)) c.deref-pair-items.ensures.value)
