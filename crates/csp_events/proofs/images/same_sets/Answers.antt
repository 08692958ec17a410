-- The sets are compared one by one.
use Rattle.std.proofs.Common.{◌∙◌}
use Rattle.csp_events.proofs.Comparing.{sets_compared}
use Rattle.csp_events.proofs.images.same_sets.Goals as goal

pub returns : goal.returns
returns g c = c.eq.ensures ∙ sets_compared g.row.A g.A.Allocator g.A.Allocator-dict g.A.Allocator-dict c.args.sets.now c.args.others.now
