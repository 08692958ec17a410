use Rattle.std.proofs.Common.{Result, Err, sym, ◌∙◌, ap, subst}
use Rattle.std.proofs.lemmas.Result.{err_from_is_err_and}
use Rattle.csp_rows.specs.declared.framed.Frame.{Frame}
use Rattle.csp_expression.specs.declared.no_value.NoValue.{NoValue}
use Rattle.theory_shapes.specs.Shape.{Renamed}
use Rattle.csp_events.specs.Events.{renaming_pairs_of}
use Rattle.csp_term.specs.Script.{script_of_parts}
use Rattle.csp_numbers.specs.Operators.{AnswersFrame}
use Rattle.csp_numbers.proofs.OperatorsByNumbers.{no_renamed_frame, renamed_frame}
use Rattle.csp_numbers.proofs.frames.renamed.Goals as goal

pub returns-in_err-images : goal.returns-in_err-images
returns-in_err-images g c =
    let s = script_of_parts c.args.script.now in
    let rs = renaming_pairs_of c.args.pairs.now in
    let p = err_from_is_err_and c.from_residual.result c.from_residual.ensures.1 in
    let P : Result (Frame g.row.A.Denot) NoValue → Type 0 = λ r. AnswersFrame c.args.alphabet.now s (Renamed rs) r in
    subst P (sym (p.1 ∙ ap Err p.2)) (no_renamed_frame g.row.A.Denot c.args.alphabet.now s rs c.in_err-images.field-0.0 c.in_err-images.ensures)

pub returns : goal.returns
returns g c = renamed_frame c.args.alphabet.now (script_of_parts c.args.script.now) (renaming_pairs_of c.args.pairs.now) c.in_ok-images.images c.in_ok-images.ensures
