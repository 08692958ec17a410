use Rattle.std.proofs.Common.{sym, ◌∙◌, subst, arith}
use Rattle.std.proofs.lemmas.List.{take_all}
use Rattle.csp_value.specs.Action.{event_of}
use Rattle.csp_events.proofs.Naming.{no_items, some_items}
use Rattle.csp_numbers.specs.Pairs.{AreNumbersOf, images_by}
use Rattle.csp_numbers.proofs.Imaging.{itself, one_image_more, others}
use Rattle.csp_numbers.proofs.images.images_of_event.Goals as goal

pub loop-pair-preserved : goal.loop-pair-preserved
loop-pair-preserved g c =
    one_image_more c.args.alphabet.now (event_of c.args.event.now) c.args.pairs.now c.loop-pair.pair-index _ c.loop-pair-test.true c.loop-pair.images.items c.add_image.new.images.items c.image-image.result c.loop-pair.invariant c.image-image.ensures c.in_ok-add_image.ensures

pub returns-then-not-is_empty : goal.returns-then-not-is_empty
returns-then-not-is_empty g c =
    let es = c.args.alphabet.now in
    let e = event_of c.args.event.now in
    let all = take_all c.loop-pair.pair-index c.args.pairs.now (omega (arith, c.loop-pair-test.false)) in
    others es e (images_by es c.args.pairs.now e) c.loop-pair.images.items (subst (λ ps. AreNumbersOf es (images_by es ps e) c.loop-pair.images.items) all c.loop-pair.invariant)
    (some_items c.loop-pair.images (sym c.is_empty.ensures ∙ c.if-not-is_empty.true))

pub returns : goal.returns
returns g c =
    let es = c.args.alphabet.now in
    let e = event_of c.args.event.now in
    let all = take_all c.loop-pair.pair-index c.args.pairs.now (omega (arith, c.loop-pair-test.false)) in
    itself es e (images_by es c.args.pairs.now e) c.args.number c.loop-pair.images.items c.push.new.self.items c.requires.numbered (subst (λ ps. AreNumbersOf es (images_by es ps e) c.loop-pair.images.items) all c.loop-pair.invariant)
    (no_items c.loop-pair.images (sym c.is_empty.ensures ∙ c.if-not-is_empty.false)) c.in_ok-push.ensures.items
