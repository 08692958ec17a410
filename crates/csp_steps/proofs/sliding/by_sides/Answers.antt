-- A sliding choice is answered by what is answered of its sides.
use Rattle.std.proofs.Common.{Result, Err, List, sym, ◌∙◌, ap, subst}
use Rattle.std.proofs.lemmas.Result.{err_from_is_err_and}
use Rattle.std.specs.declared.vec.Vec.{Vec}
use Rattle.theory_syntax.specs.Process.{SlidingChoice}
use Rattle.theory_semantics.proofs.Causes.{sliding_cause}
use Rattle.csp_steps.specs.declared.rule_step.RuleStep.{RuleStep}
use Rattle.csp_steps.specs.declared.side.Side.{Side}
use Rattle.csp_expression.specs.declared.no_value.NoValue.{NoValue}
use Rattle.csp_steps.specs.Answering.{Answered, Answers, IsAnswered, target_of}
use Rattle.csp_steps.specs.Composing.{AreSidesOf, side_answers}
use Rattle.csp_steps.proofs.Operating.{sliding_answered}
use Rattle.csp_steps.proofs.Siding.{stuck_by_sides}
use Rattle.csp_steps.proofs.sliding.by_sides.Goals as goal

pub returns-in_err-left : goal.returns-in_err-left
returns-in_err-left g c s p q are away_is =
    let e = err_from_is_err_and c.from_residual.result c.from_residual.ensures.1 in
    let S : Result (Side g.row.A.Denot × Side g.row.A.Denot) NoValue → Type 0 = λ x. AreSidesOf s p q x in
    let Q : Result (Vec (RuleStep g.row.A.Denot) g.row.A.Denot) NoValue → Type 0 = λ x. Answers s (SlidingChoice p q) x in
    subst Q (sym (e.1 ∙ ap Err e.2)) (stuck_by_sides g.row.A.Denot s p q (SlidingChoice p q) (sliding_cause s p q) c.in_err-left.field-0.0 (subst S c.in_err-left.was are))

pub returns-in_err-steps : goal.returns-in_err-steps
returns-in_err-steps g c s p q are away_is =
    let e = err_from_is_err_and c.from_residual-in_err-steps.result c.from_residual-in_err-steps.ensures.1 in
    let Q : Result (Vec (RuleStep g.row.A.Denot) g.row.A.Denot) NoValue → Type 0 = λ x. Answers s (SlidingChoice p q) x in
    subst Q (sym (e.1 ∙ ap Err e.2)) tt

pub returns : goal.returns
returns g c s p q are away_is =
    let S : Result (Side g.row.A.Denot × Side g.row.A.Denot) NoValue → Type 0 = λ x. AreSidesOf s p q x in
    let both = subst S c.in_ok-left.was are in
    let first = c.in_ok-left.left in
    let second = c.in_ok-left.right in
    let P : List Answered → Type 0 = λ ss. IsAnswered s (SlidingChoice p q) ss in
    subst P (sym c.in_ok-steps.ensures)
    (sliding_answered s p (side_answers first) q (side_answers second) (target_of second.process) (target_of c.args.away) both.1.0 away_is both.0.1 both.1.1)
