use Rattle.std.proofs.Common.{refl, arith}
use Rattle.theory_shapes.specs.Alphabet.{field_lists}
use Rattle.csp_value.specs.Fields.{sets_of}
use Rattle.csp_numbers.proofs.ChannelEvents.{all_events, one_event_more}
use Rattle.csp_numbers.proofs.listing.add_events.Goals as goal

pub loop-number-preserved : goal.loop-number-preserved
loop-number-preserved g c =
    one_event_more c.args.channel.0 (field_lists (sets_of c.args.sets.now)) c.args.events.now.items (record { channel = c.args.channel; fields = c.in_ok-fields.fields }) c.loop-number.events.items c.push.new.self.items c.loop-number.number c.loop-number.invariant refl
    c.in_ok-fields.ensures c.in_ok-push.ensures.items

pub returns : goal.returns
returns g c = all_events c.args.channel.0 (field_lists (sets_of c.args.sets.now)) c.args.events.now.items c.loop-number.events.items c.loop-number.number c.loop-number.invariant (omega arith)
