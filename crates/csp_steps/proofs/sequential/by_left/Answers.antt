-- One process and then another are answered by what is answered of the first.
use Rattle.std.proofs.Common.{Result, Err, List, map, sym, ◌∙◌, ap, subst}
use Rattle.std.proofs.lemmas.Result.{err_from_is_err_and}
use Rattle.std.specs.declared.vec.Vec.{Vec}
use Rattle.theory_syntax.specs.Process.{Sequential}
use Rattle.theory_semantics.proofs.Causes.{sequential_cause}
use Rattle.csp_steps.specs.declared.rule_step.RuleStep.{RuleStep}
use Rattle.csp_expression.specs.declared.no_value.NoValue.{NoValue}
use Rattle.csp_steps.specs.Answering.{Answered, Answers, IsAnswered, answered_of, target_of}
use Rattle.csp_steps.proofs.Operating.{sequential_answered, stuck_by_only}
use Rattle.csp_steps.proofs.sequential.by_left.Goals as goal

pub returns-in_err-left : goal.returns-in_err-left
returns-in_err-left g c s p q is second_is next_is =
    let e = err_from_is_err_and c.from_residual.result c.from_residual.ensures.1 in
    let S : Result (Vec (RuleStep g.row.A.Denot) g.row.A.Denot) NoValue → Type 0 = λ x. Answers s p x in
    let Q : Result (Vec (RuleStep g.row.A.Denot) g.row.A.Denot) NoValue → Type 0 = λ x. Answers s (Sequential p q) x in
    subst Q (sym (e.1 ∙ ap Err e.2)) (stuck_by_only s p (Sequential p q) (sequential_cause s p q) g.row.A.Denot c.in_err-left.field-0.0 (subst S c.in_err-left.was is))

pub returns-in_err-before : goal.returns-in_err-before
returns-in_err-before g c s p q is second_is next_is =
    let e = err_from_is_err_and c.from_residual-in_err-before.result c.from_residual-in_err-before.ensures.1 in
    let Q : Result (Vec (RuleStep g.row.A.Denot) g.row.A.Denot) NoValue → Type 0 = λ x. Answers s (Sequential p q) x in
    subst Q (sym (e.1 ∙ ap Err e.2)) tt

pub returns : goal.returns
returns g c s p q is second_is next_is =
    let S : Result (Vec (RuleStep g.row.A.Denot) g.row.A.Denot) NoValue → Type 0 = λ x. Answers s p x in
    let P : List Answered → Type 0 = λ ss. IsAnswered s (Sequential p q) ss in
    subst P (sym c.in_ok-before.ensures)
    (sequential_answered s p (map answered_of c.in_ok-left.left.items) q (target_of c.args.right.now) (target_of c.args.next.now) second_is next_is (subst S c.in_ok-left.was is))
