-- Events are compared as those that they stand for.
use Rattle.std.proofs.Common.{is_lt, ◌∙◌, ap}
use Rattle.csp_value.proofs.ActionOrder.{event_ordered}
use Rattle.csp_events.proofs.images.precedes.Goals as goal

pub returns : goal.returns
returns g c =
    let same = event_ordered g.row.A g.A.AllocHandle g.A.AllocHandle-dict g.A.Allocator g.A.Allocator-dict g.A.Clone g.A.Clone-dict c.args.pair.now.0 c.args.event.now in
    c.is_lt.ensures ∙ ap is_lt (c.cmp.ensures ∙ same)
