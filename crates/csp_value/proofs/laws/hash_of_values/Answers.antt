-- The derived hash respects the derived `==`.
use Rattle.csp_value.specs.contracts.value.ValueHash.TheImpl.Laws as laws
use Rattle.csp_value.proofs.Equality.{value_tells}
use Rattle.csp_value.proofs.laws.hash_of_values.Goals as goal

pub returns : goal.returns
returns g c same =
    laws.respects_eq-law g.row.A g.A.Allocator g.A.Allocator-dict g.A.Destruct-dict c.args.value.now c.args.other.now
    ((value_tells g.row.A g.A.Allocator g.A.Allocator-dict g.A.Destruct-dict).complete c.args.value.now c.args.other.now same)
