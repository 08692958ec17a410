use Rattle.std.proofs.Common.{◌≡◌, ◌++◌, ◌-◌, ◌<◌, List, length, ◌∙◌, ap, subst, arith}
use Rattle.theory_shapes.specs.Alphabet.{field_lists, with_fields}
use Rattle.csp_value.specs.declared.field_set.FieldSet.{FieldSet}
use Rattle.csp_value.specs.Fields.{sets_of}
use Rattle.csp_numbers.specs.Numbers.{events_of}
use Rattle.csp_numbers.proofs.ChannelEvents.{all_listed, none_listed, one_channel_more, too_many}
use Rattle.csp_numbers.proofs.listing.list_events.Goals as goal

pub loop-place-init : goal.loop-place-init
loop-place-init g c = none_listed c.args.channels.now c.args.most c.new-events.result.items c.new-events.ensures.items

pub loop-place-preserved : goal.loop-place-preserved
loop-place-preserved g c =
    let same = c.as_slice-sets.ensures.value in
    let counted = c.in-Some.ensures in
    let before = c.loop-place.events in
    let P : List (FieldSet g.row.A.Denot) → Type 0 = λ ss. events_of c.add_events.new.events.items ≡ events_of before.items ++ with_fields c.in_ok-number.number.0 (field_lists (sets_of ss)) in
    one_channel_more c.args.channels.now c.args.most c.loop-place.place c.index-channels-place.result c.loop-place-test.true c.index-channels-place.is before.items c.loop-place.invariant
    c.in_ok-number.number c.in-Some.count c.add_events.new.events.items c.in_ok-number.ensures (counted.0 ∙ ap (λ ss. length (field_lists (sets_of ss))) same) (omega (arith, counted.0, counted.1, before.ok.0))
    (subst P same c.in_ok-add_events.ensures)

pub returns-in_default : goal.returns-in_default
returns-in_default g c =
    let same = c.as_slice-sets.ensures.value in
    let before = c.loop-place.events in
    let P : List (FieldSet g.row.A.Denot) → Type 0 = λ ss. c.args.most - length before.items < length (field_lists (sets_of ss)) in
    let beyond = subst P same (omega (arith, c.in_default.ensures, before.ok.0)) in
    too_many c.args.channels.now c.args.most c.loop-place.place c.index-channels-place.result c.loop-place-test.true c.index-channels-place.is before.items c.loop-place.invariant beyond

pub returns : goal.returns
returns g c = all_listed c.args.channels.now c.args.most c.loop-place.place c.loop-place.events.items c.loop-place.invariant (omega (arith, c.loop-place-test.false))
