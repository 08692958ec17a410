-- The members of the value, if there is one.
use Rattle.std.proofs.Common.{List, Result, Err, sym, ap, subst}
use Rattle.theory_syntax.specs.Value as pure
use Rattle.theory_semantics.specs.Meaning.Evaluation.{Cause, value, ◌and_then◌}
use Rattle.theory_semantics.specs.Meaning.Events.{members_of}
use Rattle.csp_expression.specs.declared.no_value.NoValue.{NoValue}
use Rattle.csp_expression.specs.Evaluation.{Gives, table_of}
use Rattle.csp_expression.specs.Expression.{expression_of}
use Rattle.csp_moves.specs.Chains.{AreMembersIfAny}
use Rattle.csp_moves.proofs.replicated.members_if_any.Goals as goal

pub returns-in-Ok : goal.returns-in-Ok
returns-in-Ok g c =
    let P : Result (List pure.Value) Cause → Type 0 = λ r. AreMembersIfAny c.members_of_value.result r in
    subst P (sym (ap (λ r. r and_then λ v. members_of v) c.in-Ok.ensures)) c.members_of_value.ensures

pub returns-in-Err-Cause : goal.returns-in-Err-Cause
returns-in-Err-Cause g c =
    let r = value (table_of c.args.types.now) (expression_of c.args.set.now) in
    let P : NoValue → Type 0 = λ why. Gives {A = g.row.A.Denot} (Err why) r in
    let given = subst P c.in-Err-Cause.field-0-is c.in-Err-Cause.ensures in
    (_, ap (λ q. q and_then λ v. members_of v) given)
