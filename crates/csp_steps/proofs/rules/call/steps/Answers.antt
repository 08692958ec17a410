-- A call is answered by what it stands for.
use Rattle.std.proofs.Common.{List, [], ◌∷◌, Result, Err, sym, ◌∙◌, ap, subst, inl, inr, lit<}
use Rattle.std.proofs.lemmas.Result.{err_from_is_err_and}
use Rattle.std.specs.declared.vec.Vec.{Vec}
use Rattle.theory_syntax.specs.Expression.{to_expressions}
use Rattle.theory_syntax.specs.Process.{Call}
use Rattle.theory_syntax.specs.Value.{Tau}
use Rattle.theory_semantics.specs.Meaning.Substitution.{put_expressions}
use Rattle.csp_expression.specs.Bindings.{bindings_of}
use Rattle.csp_expression.specs.Expression.{expressions_of}
use Rattle.csp_expression.specs.declared.no_value.NoValue.{NoValue}
use Rattle.csp_term.specs.Script.{script_of_parts}
use Rattle.csp_steps.specs.declared.rule_step.RuleStep.{RuleStep}
use Rattle.csp_steps.specs.Answering.{Answered, Answers, IsAnswered}
use Rattle.csp_steps.proofs.Calling.{call_stuck, one_call}
use Rattle.csp_steps.proofs.rules.call.steps.Goals as goal

pub returns-in_err-body : goal.returns-in_err-body
returns-in_err-body g c =
    let script = script_of_parts c.args.script.now in
    let es = put_expressions (bindings_of c.args.bindings.now) (to_expressions (expressions_of c.args.arguments.now)) in
    let p = err_from_is_err_and c.from_residual.result c.from_residual.ensures.1 in
    let P : Result (Vec (RuleStep g.row.A.Denot) g.row.A.Denot) NoValue → Type 0 = λ r. Answers script (Call c.args.equation.0 es) r in
    subst P (sym (p.1 ∙ ap Err p.2)) (call_stuck script c.args.equation.0 es g.row.A.Denot c.in_err-body.field-0.0 c.in_err-body.ensures.body)

pub returns : goal.returns
returns g c =
    let script = script_of_parts c.args.script.now in
    let es = put_expressions (bindings_of c.args.bindings.now) (to_expressions (expressions_of c.args.arguments.now)) in
    let (p, goes, is) = c.in_ok-body.ensures.body in
    let steps = c.in_ok-one_step.ensures ∙ ap (λ t. (Tau, t) ∷ []) (c.in_ok-target.ensures p is) in
    let P : List Answered → Type 0 = λ ss. IsAnswered script (Call c.args.equation.0 es) ss in
    subst P (sym steps) (one_call script c.args.equation.0 es p goes)

pub one_step-requires : goal.one_step-requires
one_step-requires g c = elim g.met.A.AllocHandle.small [ inl e ↦ rw (e.0, e.1) (lit< tt, lit< tt) | inr e ↦ rw (e.0, e.1) (lit< tt, lit< tt) ]
