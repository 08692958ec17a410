-- It does the step where that is among all its steps, and a term with a fault is not told of.
use Rattle.std.proofs.Common.{◌↔◌, Contains, List, map, Some, Err, IsTrue, inl, inr, lit<, [], sym, ◌∙◌, ap, subst}
use Rattle.theory_syntax.specs.Process.{Process}
use Rattle.theory_semantics.specs.Meaning.Faults.{cause_in}
use Rattle.theory_semantics.specs.Meaning.Substitution.{put}
use Rattle.theory_semantics.proofs.Putting.{put_nothing}
use Rattle.csp_expression.specs.declared.no_value.NoValue.{NoValue}
use Rattle.csp_term.specs.Script.{script_of_parts}
use Rattle.csp_term.specs.Term.{process_of}
use Rattle.csp_steps.specs.declared.rule_step.RuleStep.{RuleStep}
use Rattle.csp_steps.specs.Answering.{Answers, IsAnswered, answered_of, answers_of}
use Rattle.csp_moves.specs.Way.{lent_action}
use Rattle.csp_moves.proofs.Decided.{decided, faulty}
use Rattle.csp_moves.proofs.deciding.does.Goals as goal

pub returns-in-Ok : goal.returns-in-Ok
returns-in-Ok g c =
    let s = script_of_parts c.args.script.now in
    let p = process_of c.args.term.now in
    let x = lent_action c.args.action in
    let t = process_of c.args.target.now in
    let P : Process → Type 0 = λ q. IsAnswered s q (answers_of c.in-Ok.steps) in
    let T : List (RuleStep g.row.A.Denot) → Type 0 = λ steps. IsTrue c.has_step.result ↔ Contains (map answered_of steps) (x, Some t) in
    decided s p x t (answers_of c.in-Ok.steps) c.has_step.result (subst P (put_nothing p) c.in-Ok.ensures) (subst T c.deref.ensures.value c.has_step.ensures)

pub returns-in-Err-Cause : goal.returns-in-Err-Cause
returns-in-Err-Cause g c =
    let s = script_of_parts c.args.script.now in
    let p = process_of c.args.term.now in
    let P : NoValue → Type 0 = λ why. Answers {A = g.row.A.Denot} s (put [] p) (Err why) in
    let given = subst P c.in-Err-Cause.field-0-is c.in-Err-Cause.ensures in
    faulty s p (lent_action c.args.action) (process_of c.args.target.now) _ (ap (cause_in s) (sym (put_nothing p)) ∙ given)

pub steps-requires : goal.steps-requires
steps-requires g c = elim g.met.A.AllocHandle.small [ inl e ↦ rw (e.0, e.1) (lit< tt) | inr e ↦ rw (e.0, e.1) (lit< tt) ]

pub has_step-requires : goal.has_step-requires
has_step-requires g c = elim g.met.A.AllocHandle.small [ inl e ↦ rw (e.0, e.1) (lit< tt) | inr e ↦ rw (e.0, e.1) (lit< tt) ]

pub drop-steps-requires-room-T-Destruct : goal.drop-steps-requires-room-T-Destruct
drop-steps-requires-room-T-Destruct g c κs within = elim g.met.A.AllocHandle.small [ inl e ↦ rw (e.0, e.1) (lit< tt) | inr e ↦ rw (e.0, e.1) (lit< tt) ]
