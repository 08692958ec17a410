use Rattle.csp_events.proofs.EventEquality.{event_set_tells}
use Rattle.csp_value.proofs.Sameness.{decided}
use Rattle.csp_events.proofs.laws.equal_event_sets.Goals as goal

pub returns : goal.returns
returns g c = decided (event_set_tells g.row.A g.A.Allocator g.A.Allocator-dict g.A.Destruct-dict) c.args.left.now c.args.right.now c.eq.result c.eq.ensures
