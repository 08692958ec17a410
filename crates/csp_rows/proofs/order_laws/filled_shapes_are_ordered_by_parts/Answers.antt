use Rattle.csp_rows.proofs.Filled.{filled_cmp}
use Rattle.csp_rows.proofs.order_laws.filled_shapes_are_ordered_by_parts.Goals as goal

pub returns : goal.returns
returns c = λ s ps qs long also. filled_cmp s ps long qs also
