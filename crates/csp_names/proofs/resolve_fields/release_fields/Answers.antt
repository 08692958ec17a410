use Rattle.std.proofs.Common.{map}
use Rattle.csp_parse.specs.Processes.{field_of}
use Rattle.csp_names.proofs.Fields.{field_read, one_more_released}
use Rattle.csp_names.proofs.resolve_fields.release_fields.Goals as goal

pub loop-field-preserved : goal.loop-field-preserved
loop-field-preserved g c =
    let read = field_read c.args.fields.now c.loop-field.field-index c.field-item.result c.loop-field-test.true c.field-item.is in
    one_more_released c.args.bound.now c.loop-field.bound (map field_of c.args.fields.now) c.loop-field.field-index c.release_field.new.bound (field_of c.field-item.result) read.0 read.1 c.loop-field.invariant c.in_ok-release_field.ensures.releases
