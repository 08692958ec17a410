use Rattle.std.proofs.Common.{◌∙◌}
use Rattle.csp_value.proofs.ValueOrder.{ordered}
use Rattle.csp_value.proofs.laws.compare_values.Goals as goal

pub returns : goal.returns
returns g c = c.cmp.ensures ∙ ordered g.row.A g.A.Allocator g.A.Allocator-dict g.A.Destruct-dict c.args.value.now c.args.other.now
