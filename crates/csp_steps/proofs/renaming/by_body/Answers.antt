-- What renames events is answered by what is answered of its body.
use Rattle.std.proofs.Common.{Result, Err, List, map, sym, ◌∙◌, ap, subst}
use Rattle.std.proofs.lemmas.Result.{err_from_is_err_and}
use Rattle.std.specs.declared.vec.Vec.{Vec}
use Rattle.std.specs.Result.{result_err}
use Rattle.theory_syntax.specs.Process.{Renaming, RenamingPair}
use Rattle.theory_semantics.specs.Meaning.Events.{renaming}
use Rattle.csp_events.specs.Events.{renaming_pairs_of}
use Rattle.csp_term.specs.Script.{script_of_parts}
use Rattle.csp_steps.specs.declared.rule_step.RuleStep.{RuleStep}
use Rattle.csp_expression.specs.declared.no_value.NoValue.{NoValue}
use Rattle.csp_steps.specs.Answering.{Answered, Answers, IsAnswered, answered_of}
use Rattle.csp_events.specs.Imaging.{AreMade}
use Rattle.csp_steps.proofs.Changing.{renaming_rest}
use Rattle.csp_steps.proofs.Imaged.{renaming_by, renaming_stuck}
use Rattle.csp_steps.proofs.Operating.{stuck_by_only}
use Rattle.csp_steps.proofs.renaming.by_body.Goals as goal

pub returns-in_err-images : goal.returns-in_err-images
returns-in_err-images g c p is =
    let s = script_of_parts c.args.script.now in
    let why = c.in_err-images.field-0.0 in
    let e = err_from_is_err_and c.from_residual.result c.from_residual.ensures.1 in
    let P : List RenamingPair → Type 0 = λ rs. Answers {A = g.row.A.Denot} s (Renaming p rs) (Err why) in
    let Q : Result (Vec (RuleStep g.row.A.Denot) g.row.A.Denot) NoValue → Type 0 = λ x. Answers s (Renaming p (renaming_pairs_of c.args.pairs.items)) x in
    subst Q (sym (e.1 ∙ ap Err e.2)) (subst P (ap renaming_pairs_of c.deref.ensures.value) (renaming_stuck g.row.A.Denot s p (renaming_pairs_of c.deref.result.now) why c.in_err-images.ensures))

pub returns-in_err-body : goal.returns-in_err-body
returns-in_err-body g c p is =
    let s = script_of_parts c.args.script.now in
    let rs = renaming_pairs_of c.deref.result.now in
    let why = c.in_err-body.field-0.0 in
    let e = err_from_is_err_and c.from_residual-in_err-body.result c.from_residual-in_err-body.ensures.1 in
    let S : Result (Vec (RuleStep g.row.A.Denot) g.row.A.Denot) NoValue → Type 0 = λ x. Answers s p x in
    let P : List RenamingPair → Type 0 = λ rs. Answers {A = g.row.A.Denot} s (Renaming p rs) (Err why) in
    let Q : Result (Vec (RuleStep g.row.A.Denot) g.row.A.Denot) NoValue → Type 0 = λ x. Answers s (Renaming p (renaming_pairs_of c.args.pairs.items)) x in
    subst Q (sym (e.1 ∙ ap Err e.2))
    (subst P (ap renaming_pairs_of c.deref.ensures.value) (stuck_by_only s p (Renaming p rs) (renaming_rest s p rs (ap result_err c.in_ok-images.ensures.0.1)) g.row.A.Denot why (subst S c.in_err-body.was is)))

pub returns-in_err-steps : goal.returns-in_err-steps
returns-in_err-steps g c p is =
    let e = err_from_is_err_and c.from_residual-in_err-steps.result c.from_residual-in_err-steps.ensures.1 in
    let Q : Result (Vec (RuleStep g.row.A.Denot) g.row.A.Denot) NoValue → Type 0 = λ x. Answers (script_of_parts c.args.script.now) (Renaming p (renaming_pairs_of c.args.pairs.items)) x in
    subst Q (sym (e.1 ∙ ap Err e.2)) tt

pub returns : goal.returns
returns g c p is =
    let s = script_of_parts c.args.script.now in
    let rs = renaming_pairs_of c.args.pairs.items in
    let images = c.in_ok-images.images in
    let S : Result (Vec (RuleStep g.row.A.Denot) g.row.A.Denot) NoValue → Type 0 = λ x. Answers s p x in
    let M : List RenamingPair → Type 0 = λ rs. AreMade images (renaming s rs) in
    let made = subst M (ap renaming_pairs_of c.deref.ensures.value) c.in_ok-images.ensures.0 in
    let P : List Answered → Type 0 = λ ss. IsAnswered s (Renaming p rs) ss in
    subst P (sym c.in_ok-steps.ensures) (renaming_by s p (map answered_of c.in_ok-body.body.items) (subst S c.in_ok-body.was is) rs images made)
