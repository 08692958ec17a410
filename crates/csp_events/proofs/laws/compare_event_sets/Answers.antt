use Rattle.std.proofs.Common.{◌∙◌}
use Rattle.csp_events.proofs.EventOrder.{ordered}
use Rattle.csp_events.proofs.laws.compare_event_sets.Goals as goal

pub returns : goal.returns
returns g c = c.cmp.ensures ∙ ordered g.row.A g.A.Allocator g.A.Allocator-dict g.A.Destruct-dict c.args.left.now c.args.right.now
