use Rattle.csp_value.proofs.Equality.{set_tells}
use Rattle.csp_value.proofs.Sameness.{decided}
use Rattle.csp_value.proofs.laws.equal_sets.Goals as goal

pub returns : goal.returns
returns g c = decided (set_tells g.row.A g.A.Allocator g.A.Allocator-dict g.A.Destruct-dict) c.args.set.now c.args.other.now c.eq.result c.eq.ensures
