-- The kinds fit, so that no operand is of the wrong kind.
use Rattle.std.proofs.Common.{◌≡◌, Err, ◌∙◌, ap, subst}
use Rattle.theory_semantics.specs.Meaning.Evaluation.{IllKinded, value}
use Rattle.csp_expression.specs.Cause.{cause_of}
use Rattle.csp_expression.specs.declared.no_value.NoValue.{NoValue}
use Rattle.csp_expression.specs.Evaluation.{Gives, table_of}
use Rattle.csp_expression.specs.Expression.{expression_of}
use Rattle.csp_expression.proofs.ClosedExpressions.{no_misfit}
use Rattle.csp_expression.proofs.expr.Expr.eval.Goals as goal

pub unreachable-requires : goal.unreachable-requires
unreachable-requires g c =
    let types = table_of c.args.types.now in
    let expression = expression_of c.args.self.now in
    let P : NoValue → Type 0 = λ why. Gives {A = g.row.A.Denot} (Err why) (value types expression) in
    let found : value types expression ≡ Err (cause_of c.in-Err-Cause.cause) = subst P c.in-Err-Cause.field-0-is c.in-Err-Cause.ensures in
    let misfit : cause_of c.in-Err-Cause.cause ≡ IllKinded = c.in-None.ensures in
    no_misfit types expression c.requires.closed (found ∙ ap Err misfit)
