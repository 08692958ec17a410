-- Events are compared as those that they stand for.
use Rattle.std.proofs.Common.{is_eq, ◌∙◌, ap}
use Rattle.csp_value.proofs.ActionOrder.{event_ordered}
use Rattle.csp_events.proofs.images.names_event.Goals as goal

pub returns : goal.returns
returns g c =
    let same = event_ordered g.row.A g.A.AllocHandle g.A.AllocHandle-dict g.A.Allocator g.A.Allocator-dict g.A.Clone g.A.Clone-dict c.args.event.now c.args.pair.now.0 in
    c.is_eq.ensures ∙ ap is_eq (c.cmp.ensures ∙ same)
