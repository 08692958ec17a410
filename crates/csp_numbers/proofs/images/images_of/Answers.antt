use Rattle.std.proofs.Common.{List, Result, Err, sym, ◌∙◌, ap, subst}
use Rattle.std.proofs.lemmas.Result.{err_from_is_err_and}
use Rattle.csp_rows.specs.declared.framed.Images.{Images}
use Rattle.csp_expression.specs.declared.no_value.NoValue.{NoValue}
use Rattle.csp_events.specs.Events.{renaming_pairs_of}
use Rattle.csp_term.specs.Script.{script_of_parts}
use Rattle.csp_numbers.specs.declared.pair.Pair.{Pair}
use Rattle.csp_numbers.specs.Images.{AnswersImages}
use Rattle.csp_numbers.specs.Pairs.{HaveImages}
use Rattle.csp_numbers.proofs.Imaging.{are_images, no_images}
use Rattle.csp_numbers.proofs.images.images_of.Goals as goal

pub returns-in_err-pairs : goal.returns-in_err-pairs
returns-in_err-pairs g c =
    let s = script_of_parts c.args.script.now in
    let rs = renaming_pairs_of c.args.pairs.now in
    let p = err_from_is_err_and c.from_residual.result c.from_residual.ensures.1 in
    let P : Result (Images g.row.A.Denot) NoValue → Type 0 = λ r. AnswersImages c.args.alphabet.now s rs r in
    subst P (sym (p.1 ∙ ap Err p.2)) (no_images g.row.A.Denot c.args.alphabet.now s rs c.in_err-pairs.field-0.0 c.in_err-pairs.ensures)

pub returns : goal.returns
returns g c =
    let s = script_of_parts c.args.script.now in
    let rs = renaming_pairs_of c.args.pairs.now in
    let have = subst (λ (ps : List Pair). HaveImages c.args.alphabet.now ps c.in_ok-images.images) c.deref.ensures.value c.in_ok-images.ensures in
    are_images c.args.alphabet.now s rs c.in_ok-pairs.pairs.items c.in_ok-images.images c.in_ok-pairs.ensures have
