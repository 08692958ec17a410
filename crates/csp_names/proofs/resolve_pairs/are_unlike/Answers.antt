-- The sets are compared one by one.
use Rattle.csp_names.proofs.Pairs.{unlike_told}
use Rattle.csp_names.proofs.resolve_pairs.are_unlike.Goals as goal

pub returns-then-left-right : goal.returns-then-left-right
returns-then-left-right g c = unlike_told g.row.A g.A.Allocator g.A.Allocator-dict g.A.Allocator-dict c.args.left.now c.args.right.now c.ne.result c.ne.ensures c.if-left-right.true
