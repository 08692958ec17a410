use Rattle.std.proofs.Common.{◌≡◌, ◌+◌, ◌*◌, ◌-◌}
use Rattle.csp_value.specs.Value.{values_of}
use Rattle.theory_spelling.specs.Reading.{items_at, value_at}
use Rattle.csp_spell.proofs.Repeating.{with_front}
use Rattle.csp_spell.proofs.read_values.+read_value.Given as goal

abbrev pub decreases-read_value : goal.decreases-read_value
decreases-read_value g l = 5 * l.depth

abbrev pub decreases-read_each_value : goal.decreases-read_each_value
decreases-read_each_value g l = 5 * l.depth + 1

abbrev pub decreases-read_values : goal.decreases-read_values
decreases-read_values g l = 5 * l.depth + 2

abbrev pub decreases-read_tagged : goal.decreases-read_tagged
decreases-read_tagged g l = 5 * l.depth + 4

abbrev pub decreases-read_set : goal.decreases-read_set
decreases-read_set g l = 5 * l.depth + 3

abbrev pub invariant-read_each_value-loop : goal.invariant-read_each_value-loop
invariant-read_each_value-loop g l = with_front (values_of l.values.items) (items_at (value_at l.depth) (l.count - l.counter) l.rest) ≡ items_at (value_at l.depth) l.count l.fn.bytes

abbrev pub decreases-read_constructor : goal.decreases-read_constructor
decreases-read_constructor g l = 5 * l.depth + 3
