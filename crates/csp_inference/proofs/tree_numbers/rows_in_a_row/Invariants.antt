use Rattle.csp_inference.proofs.Rowing.{RowsSoFar}
use Rattle.csp_inference.proofs.tree_numbers.rows_in_a_row.Given as goal

abbrev pub invariant-loop-count : goal.invariant-loop-count
invariant-loop-count g l = RowsSoFar l.initial.equations l.equations l.rows.items l.counts l.count-index
