-- The spelling and each field set are copied.
use Rattle.std.proofs.Common.{rules, ◌≡◌, List, map, subst}
use Rattle.std.specs.String.{string_bytes}
use Rattle.theory_syntax.specs.Value.{values_list}
use Rattle.csp_value.specs.declared.field_set.FieldSet.{FieldSet}
use Rattle.csp_value.specs.Copies.{AreCopies}
use Rattle.csp_value.specs.Value.{members_of}
use Rattle.csp_value.specs.Fields.{field_values}
use Rattle.csp_value.proofs.Copying.{copies_read}
use Rattle.csp_events.proofs.channel.ChannelTryCopy.try_copy.Goals as goal

pub returns : goal.returns
returns g c =
    let channel = c.args.self.now in
    let spelled : string_bytes c.in_ok-from_str.field-0 ≡ string_bytes channel.spelling = search rules in
    let S : List (FieldSet g.row.A.Denot) → Type 0 = λ ss. AreCopies (λ x y. members_of y.values ≡ members_of x.values) ss c.in_ok-copy_all.field-0.items in
    let sets : map field_values c.in_ok-copy_all.field-0.items ≡ map field_values channel.fields.items =
    copies_read (λ (s : FieldSet g.row.A.Denot). members_of s.values) values_list channel.fields.items c.in_ok-copy_all.field-0.items (subst S c.as_slice.ensures.value c.in_ok-copy_all.ensures)
    in λ i. (spelled i, sets i)
