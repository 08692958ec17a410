use Rattle.std.proofs.Common.{◌-◌}
use Rattle.csp_inference.proofs.Rowing.{RowSoFar}
use Rattle.csp_inference.proofs.tree_numbers.numbers_in_a_row.Given as goal

abbrev pub invariant-loop : goal.invariant-loop
invariant-loop g l = RowSoFar l.initial.equations l.equations l.numbers.items (l.count - l.counter) l.count
