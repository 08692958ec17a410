use Rattle.theory_checking.specs.Names.{with_spellings}
use Rattle.theory_checking.proofs.Spellings.{with_more}
use Rattle.printed_names.specs.Binding.{met}
use Rattle.printed_names.proofs.Meeting.{fields_in_parts, met_by_fields}
use Rattle.printed_names.proofs.Turns.{cut_at, one_more}
use Rattle.printed_names.proofs.bound_names.BoundNames.add_fields.Goals as goal

pub loop-field-preserved : goal.loop-field-preserved
loop-field-preserved g c =
    let fields = c.args.fields.now in
    let i = c.loop-field.field-index in
    one_more with_spellings with_more met_by_fields fields_in_parts fields i (met c.args.self.now) (met c.loop-field.self) (met c.add_field.new.self) c.field-item.result
    (cut_at fields i c.field-item.result c.loop-field-test.true c.field-item.is) c.loop-field.invariant c.in_ok-add_field.ensures
