-- The condition is that with no value put in.
use Rattle.std.proofs.Common.{◌≡◌, Bool, true, false, [], Result, Ok, Err, sym, ◌∙◌, ap, subst}
use Rattle.theory_semantics.specs.Meaning.Evaluation.{Cause}
use Rattle.theory_semantics.specs.Meaning.Events.{condition}
use Rattle.theory_semantics.specs.Meaning.Substitution.{put_expression}
use Rattle.theory_semantics.proofs.Putting.{put_nothing_in_expression}
use Rattle.csp_expression.specs.Cause.{cause_of}
use Rattle.csp_expression.specs.Evaluation.{table_of}
use Rattle.csp_expression.specs.Expression.{expression_of}
use Rattle.csp_expression.specs.declared.no_value.NoValue.{NoValue}
use Rattle.csp_settling.specs.Arguments.{Decides}
use Rattle.csp_settling.specs.Settling.{IsTruth}
use Rattle.csp_settling.proofs.truth.decide.Goals as goal

pub returns-in-Ok : goal.returns-in-Ok
returns-in-Ok g c =
    let types = table_of c.args.types.now in
    let e = expression_of c.args.test.now in
    let T : Result Bool Cause → Type 0 = λ r. IsTruth r c.told.result in
    subst T (sym (sym (ap (condition types) (put_nothing_in_expression e)) ∙ c.in-Ok.ensures)) c.told.ensures

pub returns-in-Err-Cause : goal.returns-in-Err-Cause
returns-in-Err-Cause g c =
    let types = table_of c.args.types.now in
    let e = expression_of c.args.test.now in
    let D : Result Bool NoValue → Type 0 = λ x. Decides x (condition types (put_expression [] e)) in
    let F : NoValue → Type 0 = λ x. D (Err x) in
    (cause_of c.in-Err-Cause.field-0-0, sym (ap (condition types) (put_nothing_in_expression e)) ∙ subst F c.in-Err-Cause.field-0-is (subst D c.in-Err-Cause.is c.condition.ensures))
