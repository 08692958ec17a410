use Rattle.std.proofs.Common.{List, None, Some, sym, ◌∙◌, subst}
use Rattle.std.proofs.lemmas.Bool.{eqb-true}
use Rattle.csp_value.specs.declared.value.Value.{Value}
use Rattle.csp_value.specs.Action.{event_of}
use Rattle.csp_value.specs.Value.{values_of}
use Rattle.csp_numbers.specs.declared.pair.Pair.{Pair}
use Rattle.csp_numbers.specs.Numbers.{IsNumberOf}
use Rattle.csp_numbers.specs.Pairs.{IsImage, IsPlaced, image_by}
use Rattle.csp_numbers.proofs.Imaging.{image_of_event, image_on_channel, no_image_of_event, no_image_on_channel}
use Rattle.csp_numbers.proofs.pair.Pair.image.Goals as goal

pub returns-then-is_on : goal.returns-then-is_on
returns-then-is_on g c =
    let es = c.args.alphabet.now in
    let e = event_of c.args.event.now in
    let r = c.number_with.result in
    let P : Pair → Type 0 = λ p. IsImage es (image_by es e p) r in
    let found = subst (λ (vs : List (Value g.row.A.Denot)). IsNumberOf es (record { channel = c.in-Channels.to.0; fields = values_of vs }) r) c.deref.ensures c.number_with.ensures in
    subst P (sym c.in-Channels.is)
    (image_on_channel es c.args.number.0 e c.requires.numbered c.in-Channels.from c.in-Channels.to r (subst (IsPlaced es) c.in-Channels.is c.requires.placed) (sym c.is_on.ensures ∙ c.if-is_on.true) found)

pub returns-else-is_on : goal.returns-else-is_on
returns-else-is_on g c =
    let es = c.args.alphabet.now in
    let e = event_of c.args.event.now in
    let P : Pair → Type 0 = λ p. IsImage es (image_by es e p) None in
    subst P (sym c.in-Channels.is) (no_image_on_channel es c.args.number.0 e c.requires.numbered c.in-Channels.from c.in-Channels.to (sym c.is_on.ensures ∙ c.if-is_on.false))

pub returns-then-are_same : goal.returns-then-are_same
returns-then-are_same g c =
    let es = c.args.alphabet.now in
    let e = event_of c.args.event.now in
    let P : Pair → Type 0 = λ p. IsImage es (image_by es e p) (Some c.in-Events.to) in
    let same = eqb-true c.args.number.0 c.in-Events.from.0 (sym c.are_same.ensures ∙ c.if-are_same.true) in
    subst P (sym c.in-Events.is) (image_of_event es c.args.number.0 e c.requires.numbered c.in-Events.from c.in-Events.to (subst (IsPlaced es) c.in-Events.is c.requires.placed) same)

pub returns-else-are_same : goal.returns-else-are_same
returns-else-are_same g c =
    let es = c.args.alphabet.now in
    let e = event_of c.args.event.now in
    let P : Pair → Type 0 = λ p. IsImage es (image_by es e p) None in
    subst P (sym c.in-Events.is)
    (no_image_of_event es c.args.number.0 e c.requires.numbered c.in-Events.from c.in-Events.to (subst (IsPlaced es) c.in-Events.is c.requires.placed) c.requires.rising (sym c.are_same.ensures ∙ c.if-are_same.false))
