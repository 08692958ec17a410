use Rattle.std.proofs.Common.{◌≡◌, map}
use Rattle.csp_parse.specs.Processes.{field_of, fields_given}
use Rattle.csp_parse.proofs.read_fields.given.Given as goal

abbrev pub invariant-loop-value : goal.invariant-loop-value
invariant-loop-value g l = map field_of l.fields.items ≡ fields_given l.yielded
