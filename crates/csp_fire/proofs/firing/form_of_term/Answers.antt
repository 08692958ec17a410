-- The form is by the steps, or says why there are none.
use Rattle.std.proofs.Common.{rules, ◌≡◌, [], Result, Ok, Err, Some, true, map, subst, sym, ◌∙◌, ap, inl, inr, lit<}
use Rattle.std.specs.declared.vec.Vec.{Vec}
use Rattle.theory_semantics.specs.Meaning.Evaluation.{IllKinded}
use Rattle.theory_semantics.specs.Meaning.Expansions.{IsFormOf}
use Rattle.theory_semantics.specs.Meaning.Faults.{cause_in}
use Rattle.theory_semantics.specs.Meaning.Limits.{fits}
use Rattle.theory_semantics.specs.Meaning.Substitution.{put}
use Rattle.theory_syntax.specs.Process.{Process}
use Rattle.theory_semantics.proofs.ClosedTerms.{no_misfit}
use Rattle.theory_semantics.proofs.Putting.{put_nothing}
use Rattle.csp_term.specs.Term.{process_of}
use Rattle.csp_term.specs.Script.{script_of_parts}
use Rattle.csp_expression.specs.Cause.{cause_of}
use Rattle.csp_expression.proofs.Answering.{if_ok-map}
use Rattle.csp_steps.specs.declared.rule_step.RuleStep.{RuleStep}
use Rattle.csp_expression.specs.declared.no_value.NoValue.{NoValue}
use Rattle.csp_steps.specs.Answering.{Answers, answered_of}
use Rattle.csp_fire.specs.Form.{form_of}
use Rattle.csp_fire.specs.Offering.{IsFormByAnswer}
use Rattle.csp_fire.proofs.Exactness.{form_by_answer}
use Rattle.csp_fire.proofs.firing.form_of_term.Goals as goal

pub returns-in-Ok : goal.returns-in-Ok
returns-in-Ok g c =
    let script = script_of_parts c.args.script.now in
    let term = process_of c.args.term.now in
    let answers = map answered_of c.in-Ok.answered.items in
    let within : fits term ≡ true = search rules in
    let P : Process → Result (Vec (RuleStep g.row.A.Denot) g.row.A.Denot) NoValue → Type 0 = λ p r. Answers script p r in
    if_ok-map (λ f. IsFormByAnswer answers (form_of f)) (λ f. IsFormOf script term (form_of f)) c.form_by_answer.result
    (λ f by. form_by_answer script term within answers (subst (λ p. P p (Ok c.in-Ok.answered)) (put_nothing term) (subst (P (put [] term)) c.in-Ok.is c.steps.ensures)) (form_of f) by) c.form_by_answer.ensures

pub steps-requires : goal.steps-requires
steps-requires g c = elim g.met.A.AllocHandle.small [ inl e ↦ rw (e.0, e.1) (lit< tt) | inr e ↦ rw (e.0, e.1) (lit< tt) ]

pub form_by_answer-requires : goal.form_by_answer-requires
form_by_answer-requires g c = elim g.met.A.AllocHandle.small [ inl e ↦ rw (e.0, e.1) (lit< tt) | inr e ↦ rw (e.0, e.1) (lit< tt) ]

-- The kinds fit, so that no operand is of the wrong kind.
pub unreachable-requires : goal.unreachable-requires
unreachable-requires g c =
    let script = script_of_parts c.args.script.now in
    let term = process_of c.args.term.now in
    let P : Process → NoValue → Type 0 = λ p why. Answers {A = g.row.A.Denot} script p (Err why) in
    let cause = c.in-Err-Cause.cause in
    let given : cause_in script (put [] term) ≡ Some (cause_of cause) = subst (P (put [] term)) c.in-Err-Cause.field-0-is c.in-Err-Cause.ensures in
    let found : cause_in script term ≡ Some (cause_of cause) = ap (cause_in script) (sym (put_nothing term)) ∙ given in
    let misfit : cause_of cause ≡ IllKinded = rw (c.in-Err-Cause.field-0-is) at c.in-None.ensures in
    no_misfit script c.requires.closed.0 c.requires.closed.1 term c.requires.closed.2 (found ∙ ap Some misfit)
