use Rattle.std.proofs.Common.{◌≡◌, ◌+◌, ◌*◌}
use Rattle.std.specs.Prelude.{drop}
use Rattle.csp_value.proofs.Measures.{one_size, sizes}
use Rattle.csp_kinds.proofs.Using.{all_built}
use Rattle.csp_kinds.proofs.table.Table.+constructors.Given as goal

abbrev pub decreases-has_constructors_of : goal.decreases-has_constructors_of
decreases-has_constructors_of g l = 2 * one_size l.value.now

abbrev pub decreases-has_constructors_of_all : goal.decreases-has_constructors_of_all
decreases-has_constructors_of_all g l = 2 * sizes l.values.now + 1

abbrev pub invariant-has_constructors_of_all-loop-value : goal.invariant-has_constructors_of_all-loop-value
invariant-has_constructors_of_all-loop-value g l = all_built l.self.filled.items (drop l.value-index l.values) ≡ all_built l.self.filled.items l.values
