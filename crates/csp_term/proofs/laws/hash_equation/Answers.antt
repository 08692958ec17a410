-- Equations that stand for the same are equal, and equal ones make the same writes.
use Rattle.std.proofs.Common.{sym, ◌∙◌, ap}
use Rattle.std.specs.List.{fold}
use Rattle.csp_term.specs.contracts.script.EquationHash.TheImpl.Laws as laws
use Rattle.csp_term.proofs.Equality.{equation_tells}
use Rattle.csp_term.proofs.laws.hash_equation.Goals as goal

pub returns : goal.returns
returns g c other same =
    let equal = (equation_tells g.row.A g.A.Allocator g.A.Allocator-dict g.A.Destruct-dict).complete c.args.equation.now other (sym same) in
    c.hash.ensures ∙ ap (fold g.H.Hasher.write c.args.hasher.now) (laws.respects_eq-law g.row.A g.A.Allocator g.A.Allocator-dict g.A.Destruct-dict c.args.equation.now other equal)
