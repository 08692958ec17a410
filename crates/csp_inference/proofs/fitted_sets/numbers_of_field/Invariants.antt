use Rattle.csp_inference.proofs.Columns.{ColumnLeft}
use Rattle.csp_inference.proofs.fitted_sets.numbers_of_field.Given as goal

abbrev pub invariant-loop-row : goal.invariant-loop-row
invariant-loop-row g l = ColumnLeft l.numbers.items l.field l.rows l.row-index
