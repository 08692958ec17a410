use Rattle.std.proofs.Common.{◌≡◌, ◌-◌}
use Rattle.csp_term.specs.Field.{fields_of}
use Rattle.theory_spelling.specs.Reading.{items_at, field_at}
use Rattle.csp_spell.proofs.Repeating.{with_front}
use Rattle.csp_spell.proofs.read_fields.read_each_field.Given as goal

abbrev pub invariant-loop : goal.invariant-loop
invariant-loop g l = with_front (fields_of l.fields.items) (items_at (field_at l.depth) (l.count - l.counter) l.rest) ≡ items_at (field_at l.depth) l.count l.fn.bytes
