use Rattle.std.proofs.Common.{map, take}
use Rattle.csp_parse.specs.Processes.{field_of}
use Rattle.csp_names.specs.Scopes.{IsInOrder, Releases}
use Rattle.csp_names.proofs.Fields.{met_by}
use Rattle.csp_names.proofs.resolve_fields.release_fields.Given as goal

abbrev pub invariant-loop-field : goal.invariant-loop-field
invariant-loop-field g l = IsInOrder l.initial.bound → Releases l.initial.bound l.bound (met_by (take l.field-index (map field_of l.fields)))
