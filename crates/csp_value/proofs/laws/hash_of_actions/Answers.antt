-- The derived hash respects the derived `==`.
use Rattle.csp_value.specs.contracts.action.ActionHash.TheImpl.Laws as laws
use Rattle.csp_value.proofs.ActionEquality.{action_tells}
use Rattle.csp_value.proofs.laws.hash_of_actions.Goals as goal

pub returns : goal.returns
returns g c same =
    laws.respects_eq-law g.row.A g.A.AllocHandle g.A.AllocHandle-dict g.A.Allocator g.A.Allocator-dict g.A.Clone g.A.Clone-dict (record { small = g.met.A.AllocHandle.small }) c.args.action.now c.args.other.now
    ((action_tells g.row.A g.A.AllocHandle g.A.AllocHandle-dict g.A.Allocator g.A.Allocator-dict g.A.Clone g.A.Clone-dict).complete c.args.action.now c.args.other.now same)
