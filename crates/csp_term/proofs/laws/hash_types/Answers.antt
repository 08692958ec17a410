-- Tables with the same types are equal, and equal ones make the same writes.
use Rattle.std.proofs.Common.{sym, ◌∙◌, ap}
use Rattle.std.specs.List.{fold}
use Rattle.csp_expression.specs.contracts.types.TypeTableHash.TheImpl.Laws as laws
use Rattle.csp_term.proofs.Equality.{table_tells}
use Rattle.csp_term.proofs.laws.hash_types.Goals as goal

pub returns : goal.returns
returns g c other same =
    let equal = (table_tells g.row.A g.A.Allocator g.A.Allocator-dict g.A.Destruct-dict).complete c.args.types.now other (sym same) in
    c.hash.ensures ∙ ap (fold g.H.Hasher.write c.args.hasher.now) (laws.respects_eq-law g.row.A g.A.Allocator g.A.Allocator-dict g.A.Destruct-dict c.args.types.now other equal)
