-- A tau to each of the two.
use Rattle.std.proofs.Common.{◌∷◌, [], List, Option, Result, Err, sym, ◌∙◌, ap, ap₂, subst}
use Rattle.std.proofs.lemmas.Result.{err_from_is_err_and}
use Rattle.std.specs.declared.vec.Vec.{Vec}
use Rattle.theory_syntax.specs.Value.{Tau}
use Rattle.theory_syntax.specs.Process.{Process, InternalChoice}
use Rattle.theory_semantics.specs.Meaning.Substitution.{put}
use Rattle.csp_expression.specs.Bindings.{bindings_of}
use Rattle.csp_term.specs.Script.{script_of_parts}
use Rattle.csp_term.specs.Term.{process_of}
use Rattle.csp_expression.specs.declared.no_value.NoValue.{NoValue}
use Rattle.csp_steps.specs.declared.rule_step.RuleStep.{RuleStep}
use Rattle.csp_steps.specs.Answering.{Answered, Answers, IsAnswered}
use Rattle.csp_steps.proofs.Operating.{internal_answered}
use Rattle.csp_steps.proofs.rules.choice.internal.Goals as goal

pub returns-in_err-left : goal.returns-in_err-left
returns-in_err-left g c =
    let left = put (bindings_of c.args.bindings.now) (process_of c.args.left.now) in
    let right = put (bindings_of c.args.bindings.now) (process_of c.args.right.now) in
    let e = err_from_is_err_and c.from_residual.result c.from_residual.ensures.1 in
    let Q : Result (Vec (RuleStep g.row.A.Denot) g.row.A.Denot) NoValue → Type 0 = λ x. Answers (script_of_parts c.args.script.now) (InternalChoice left right) x in
    subst Q (sym (e.1 ∙ ap Err e.2)) tt

pub returns-in_err-right : goal.returns-in_err-right
returns-in_err-right g c =
    let left = put (bindings_of c.args.bindings.now) (process_of c.args.left.now) in
    let right = put (bindings_of c.args.bindings.now) (process_of c.args.right.now) in
    let e = err_from_is_err_and c.from_residual-in_err-right.result c.from_residual-in_err-right.ensures.1 in
    let Q : Result (Vec (RuleStep g.row.A.Denot) g.row.A.Denot) NoValue → Type 0 = λ x. Answers (script_of_parts c.args.script.now) (InternalChoice left right) x in
    subst Q (sym (e.1 ∙ ap Err e.2)) tt

pub returns-in_err-taus : goal.returns-in_err-taus
returns-in_err-taus g c =
    let left = put (bindings_of c.args.bindings.now) (process_of c.args.left.now) in
    let right = put (bindings_of c.args.bindings.now) (process_of c.args.right.now) in
    let e = err_from_is_err_and c.from_residual-in_err-taus.result c.from_residual-in_err-taus.ensures.1 in
    let Q : Result (Vec (RuleStep g.row.A.Denot) g.row.A.Denot) NoValue → Type 0 = λ x. Answers (script_of_parts c.args.script.now) (InternalChoice left right) x in
    subst Q (sym (e.1 ∙ ap Err e.2)) tt

pub returns : goal.returns
returns g c =
    let left = put (bindings_of c.args.bindings.now) (process_of c.args.left.now) in
    let right = put (bindings_of c.args.bindings.now) (process_of c.args.right.now) in
    let script = script_of_parts c.args.script.now in
    let two : Option Process → Option Process → List Answered = λ o r. (Tau, o) ∷ (Tau, r) ∷ [] in
    let P : List Answered → Type 0 = λ ss. IsAnswered script (InternalChoice left right) ss in
    subst P (sym (c.in_ok-taus.ensures ∙ ap₂ two c.in_ok-left.ensures c.in_ok-right.ensures)) (internal_answered script left right)
