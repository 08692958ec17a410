use Rattle.csp_term.proofs.Equality.{table_tells}
use Rattle.csp_value.proofs.Sameness.{decided}
use Rattle.csp_term.proofs.laws.equal_types.Goals as goal

pub returns : goal.returns
returns g c = decided (table_tells g.row.A g.A.Allocator g.A.Allocator-dict g.A.Destruct-dict) c.args.left.now c.args.right.now c.eq.result c.eq.ensures
