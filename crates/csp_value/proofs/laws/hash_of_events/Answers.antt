-- The derived hash respects the derived `==`.
use Rattle.csp_value.specs.contracts.action.EventHash.TheImpl.Laws as laws
use Rattle.csp_value.proofs.ActionEquality.{event_tells}
use Rattle.csp_value.proofs.laws.hash_of_events.Goals as goal

pub returns : goal.returns
returns g c same =
    laws.respects_eq-law g.row.A g.A.AllocHandle g.A.AllocHandle-dict g.A.Allocator g.A.Allocator-dict g.A.Clone g.A.Clone-dict (record { small = g.met.A.AllocHandle.small }) c.args.event.now c.args.other.now
    ((event_tells g.row.A g.A.AllocHandle g.A.AllocHandle-dict g.A.Allocator g.A.Allocator-dict g.A.Clone g.A.Clone-dict).complete c.args.event.now c.args.other.now same)
