use Rattle.csp_term.specs.Field.{field_of}
use Rattle.theory_spelling.specs.Spelling.{field_spelling}
use Rattle.theory_spelling.specs.Ranges.{IsInRangeField}
use Rattle.csp_spell.proofs.Pushing.{Put, Gone}
use Rattle.csp_spell.proofs.fields.push_fields.Given as goal

abbrev pub invariant-loop-field : goal.invariant-loop-field
invariant-loop-field g l = Put field_spelling field_of l.fields l.fn.bytes.items l.bytes.items l.field-index × Gone IsInRangeField field_of l.fields l.field-index
