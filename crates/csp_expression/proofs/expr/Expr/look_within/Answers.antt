-- A value of the expression is compared with the set, and no value stays none.
use Rattle.std.proofs.Common.{Result, Err, sym, ◌∙◌, ap, subst}
use Rattle.std.proofs.lemmas.Result.{err_from_is_err_and}
use Rattle.theory_syntax.specs.Value as pure
use Rattle.theory_semantics.specs.Meaning.Evaluation.{Cause, in_field_set, value}
use Rattle.theory_semantics.specs.Meaning.Substitution.{put_expression}
use Rattle.csp_value.specs.Fields.{field_values}
use Rattle.csp_expression.specs.declared.no_value.NoValue.{NoValue}
use Rattle.csp_expression.specs.declared.seen.Seen.{Seen}
use Rattle.csp_expression.specs.Bindings.{bindings_of}
use Rattle.csp_expression.specs.Evaluation.{Sees, seen_value, table_of}
use Rattle.csp_expression.specs.Expression.{expression_of}
use Rattle.csp_expression.specs.Given.{given}
use Rattle.csp_expression.proofs.Evaluating.{given_found, none_behind}
use Rattle.csp_expression.proofs.expr.Expr.look_within.Goals as goal

pub returns-in_err-seen : goal.returns-in_err-seen
returns-in_err-seen g c =
    let types = table_of c.args.types.now in
    let e = put_expression (bindings_of c.args.bindings.now) (expression_of c.args.self.now) in
    let set = field_values c.args.set.now in
    let p = err_from_is_err_and c.from_residual.result c.from_residual.ensures.1 in
    let P : Result (Seen g.row.A.Denot) NoValue → Type 0 = λ r. Sees r (given types e set) in
    subst P (sym (p.1 ∙ ap Err p.2)) (none_behind (seen_value {A = g.row.A.Denot}) (seen_value {A = g.row.A.Denot}) c.in_err-seen.field-0.0 (value types e) (λ v. in_field_set set v) c.in_err-seen.ensures)

pub returns : goal.returns
returns g c =
    let types = table_of c.args.types.now in
    let e = put_expression (bindings_of c.args.bindings.now) (expression_of c.args.self.now) in
    let set = field_values c.args.set.now in
    let P : Result pure.Value Cause → Type 0 = λ r. Sees c.within.result r in
    subst P (sym (given_found types e set (seen_value c.in_ok-seen.seen) c.in_ok-seen.ensures)) c.within.ensures
