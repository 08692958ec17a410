use Rattle.std.proofs.Common.{refl}
use Rattle.csp_parse.specs.declared.processes.Field.TheVariants as field
use Rattle.csp_parse.proofs.Fields.{more_given}
use Rattle.csp_parse.proofs.read_fields.given.Goals as goal

pub loop-value-preserved : goal.loop-value-preserved
loop-value-preserved g c =
    more_given c.in-Some.value c.loop-value.yielded (field.Given c.in-Some.value) c.loop-value.fields.items c.push.new.self.items refl c.loop-value.invariant c.in_ok-push.ensures.items
