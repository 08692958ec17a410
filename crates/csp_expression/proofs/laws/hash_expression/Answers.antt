-- Expressions that stand for the same are equal, and equal ones make the same writes.
use Rattle.std.proofs.Common.{sym, ◌∙◌, ap}
use Rattle.std.specs.List.{fold}
use Rattle.csp_expression.specs.contracts.expr.ExprHash.TheImpl.Laws as laws
use Rattle.csp_expression.proofs.ExpressionEquality.{expression_tells}
use Rattle.csp_expression.proofs.laws.hash_expression.Goals as goal

pub returns : goal.returns
returns g c other same =
    let equal = (expression_tells g.row.A g.A.Allocator g.A.Allocator-dict g.A.Destruct-dict).complete c.args.expression.now other (sym same) in
    c.hash.ensures ∙ ap (fold g.H.Hasher.write c.args.hasher.now) (laws.respects_eq-law g.row.A g.A.Allocator g.A.Allocator-dict g.A.Destruct-dict c.args.expression.now other equal)
