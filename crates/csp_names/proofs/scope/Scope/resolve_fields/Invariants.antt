use Rattle.std.proofs.Common.{map}
use Rattle.csp_parse.specs.Processes.{field_of}
use Rattle.csp_names.proofs.Fields.{FieldsSoFar}
use Rattle.csp_names.proofs.scope.Scope.resolve_fields.Given as goal

abbrev pub invariant-loop-field : goal.invariant-loop-field
invariant-loop-field g l = FieldsSoFar l.self l.initial.bound l.bound (map field_of l.fields) l.field-index l.resolved.items
