-- What hides events is answered by what is answered of its body.
use Rattle.std.proofs.Common.{Result, Err, List, map, sym, ◌∙◌, ap, subst}
use Rattle.std.proofs.lemmas.Result.{err_from_is_err_and}
use Rattle.std.specs.declared.vec.Vec.{Vec}
use Rattle.std.specs.Result.{result_err}
use Rattle.theory_syntax.specs.Process.{Hiding}
use Rattle.csp_events.specs.Events.{event_set_of}
use Rattle.csp_term.specs.Script.{script_of_parts}
use Rattle.csp_steps.specs.declared.rule_step.RuleStep.{RuleStep}
use Rattle.csp_expression.specs.declared.no_value.NoValue.{NoValue}
use Rattle.csp_steps.specs.Answering.{Answered, Answers, IsAnswered, answered_of}
use Rattle.csp_events.specs.Testing.{test_of}
use Rattle.csp_steps.proofs.Changing.{hiding_by, hiding_rest, hiding_stuck}
use Rattle.csp_steps.proofs.Operating.{stuck_by_only}
use Rattle.csp_steps.proofs.hiding.by_body.Goals as goal

pub returns-in_err-test : goal.returns-in_err-test
returns-in_err-test g c p is =
    let s = script_of_parts c.args.script.now in
    let a = event_set_of c.args.hidden in
    let e = err_from_is_err_and c.from_residual.result c.from_residual.ensures.1 in
    let Q : Result (Vec (RuleStep g.row.A.Denot) g.row.A.Denot) NoValue → Type 0 = λ x. Answers s (Hiding p a) x in
    subst Q (sym (e.1 ∙ ap Err e.2)) (hiding_stuck g.row.A.Denot s p a c.in_err-test.field-0.0 c.in_err-test.ensures)

pub returns-in_err-body : goal.returns-in_err-body
returns-in_err-body g c p is =
    let s = script_of_parts c.args.script.now in
    let a = event_set_of c.args.hidden in
    let e = err_from_is_err_and c.from_residual-in_err-body.result c.from_residual-in_err-body.ensures.1 in
    let S : Result (Vec (RuleStep g.row.A.Denot) g.row.A.Denot) NoValue → Type 0 = λ x. Answers s p x in
    let Q : Result (Vec (RuleStep g.row.A.Denot) g.row.A.Denot) NoValue → Type 0 = λ x. Answers s (Hiding p a) x in
    subst Q (sym (e.1 ∙ ap Err e.2)) (stuck_by_only s p (Hiding p a) (hiding_rest s p a (ap result_err c.in_ok-test.ensures.0)) g.row.A.Denot c.in_err-body.field-0.0 (subst S c.in_err-body.was is))

pub returns-in_err-steps : goal.returns-in_err-steps
returns-in_err-steps g c p is =
    let e = err_from_is_err_and c.from_residual-in_err-steps.result c.from_residual-in_err-steps.ensures.1 in
    let Q : Result (Vec (RuleStep g.row.A.Denot) g.row.A.Denot) NoValue → Type 0 = λ x. Answers (script_of_parts c.args.script.now) (Hiding p (event_set_of c.args.hidden)) x in
    subst Q (sym (e.1 ∙ ap Err e.2)) tt

pub returns : goal.returns
returns g c p is =
    let s = script_of_parts c.args.script.now in
    let a = event_set_of c.args.hidden in
    let S : Result (Vec (RuleStep g.row.A.Denot) g.row.A.Denot) NoValue → Type 0 = λ x. Answers s p x in
    let P : List Answered → Type 0 = λ ss. IsAnswered s (Hiding p a) ss in
    subst P (sym c.in_ok-steps.ensures) (hiding_by s p (map answered_of c.in_ok-body.body.items) (subst S c.in_ok-body.was is) a (test_of c.in_ok-test.test) c.in_ok-test.ensures.0)
