use Rattle.csp_value.proofs.ActionEquality.{event_tells}
use Rattle.csp_value.proofs.Sameness.{decided}
use Rattle.csp_value.proofs.laws.equal_events.Goals as goal

pub returns : goal.returns
returns g c = decided (event_tells g.row.A g.A.AllocHandle g.A.AllocHandle-dict g.A.Allocator g.A.Allocator-dict g.A.Clone g.A.Clone-dict) c.args.event.now c.args.other.now c.eq.result c.eq.ensures
