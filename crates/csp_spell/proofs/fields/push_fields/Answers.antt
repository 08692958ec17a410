-- The spelling of one more of them.
use Rattle.theory_spelling.specs.Spelling.{field_spelling}
use Rattle.theory_spelling.specs.Packable.{IsPackableField}
use Rattle.csp_term.specs.Field.{field_of}
use Rattle.theory_spelling.specs.Ranges.{IsInRangeField}
use Rattle.csp_spell.proofs.Pushing.{put_none, put_one, put_all, item_of, gone_one, gone_all}
use Rattle.csp_spell.proofs.fields.push_fields.Goals as goal

pub push_field-requires : goal.push_field-requires
push_field-requires g c =
    item_of IsPackableField field_of c.args.fields.now c.loop-field.field-index c.field-item.result c.loop-field-test.true c.field-item.is c.requires.1

pub loop-field-preserved : goal.loop-field-preserved
loop-field-preserved g c = (
  put_one field_spelling field_of c.args.fields.now c.args.bytes.now.items c.loop-field.bytes.items c.push_field.new.bytes.items c.loop-field.field-index c.field-item.result c.loop-field-test.true c.field-item.is c.in_ok-push_field.ensures.spelled c.loop-field.invariant.0,
  gone_one IsInRangeField field_of c.args.fields.now c.loop-field.field-index c.field-item.result c.loop-field-test.true c.field-item.is c.in_ok-push_field.ensures.range c.loop-field.invariant.1,
)

pub loop-field-init : goal.loop-field-init
loop-field-init g c = (put_none field_spelling field_of c.args.fields.now c.args.bytes.now.items c.push_length.new.bytes.items c.in_ok-push_length.ensures, tt)

pub returns : goal.returns
returns g c = record {
  spelled = put_all field_spelling field_of c.args.fields.now c.args.bytes.now.items c.loop-field.bytes.items c.loop-field.field-index c.loop-field-test.false c.loop-field.invariant.0;
  range = gone_all IsInRangeField field_of c.args.fields.now c.loop-field.field-index c.loop-field-test.false c.loop-field.invariant.1;
}
