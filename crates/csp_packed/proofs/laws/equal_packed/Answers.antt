use Rattle.csp_value.proofs.Sameness.{decided}
use Rattle.csp_packed.proofs.Sameness.{packed_tells}
use Rattle.csp_packed.proofs.laws.equal_packed.Goals as goal

pub returns : goal.returns
returns g c = decided (packed_tells g.row.A g.A.Allocator g.A.Allocator-dict g.A.Destruct-dict) c.args.left.now c.args.right.now c.eq.result c.eq.ensures
