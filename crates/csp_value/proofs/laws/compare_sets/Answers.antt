use Rattle.std.proofs.Common.{◌∙◌}
use Rattle.csp_value.proofs.ValueOrder.{ordered_set}
use Rattle.csp_value.proofs.laws.compare_sets.Goals as goal

pub returns : goal.returns
returns g c = c.cmp.ensures ∙ ordered_set g.row.A g.A.Allocator g.A.Allocator-dict g.A.Destruct-dict c.args.set.now c.args.other.now
