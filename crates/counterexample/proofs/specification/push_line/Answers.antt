-- Each part is put one after the other.
use Rattle.std.proofs.Common.{◌≡◌, ◌++◌, ◌∙◌, ap}
use Rattle.std.specs.Prelude.{codes}
use Rattle.std.specs.String.{string_bytes}
use Rattle.csp_term.specs.Term.{process_of}
use Rattle.theory_notation.specs.Processes.{process_text}
use Rattle.theory_explanation.specs.Cutting.{cut}
use Rattle.csp_print.specs.Names.{names_of}
use Rattle.csp_print.proofs.Writing.{behind}
use Rattle.counterexample.specs.Widths.{width_of}
use Rattle.counterexample.proofs.specification.push_line.Goals as goal

pub returns : goal.returns
returns g c =
    let width = width_of c.args.style.now.width in
    let whole = process_text (names_of c.args.style.now.names.now) (process_of c.args.state.now) in
    let r = c.push_mark-2.result in
    let start = string_bytes c.args.text.now in
    let new = string_bytes c.push_mark-2.new.text in
    let mid = string_bytes c.push_mark.new.text in
    let told : cut width c.as_str.result.now ≡ cut width whole = ap (cut width) (c.as_str.ensures.value ∙ c.in_ok-push_term.ensures ∙ ap (λ xs. xs ++ whole) c.new-whole.ensures.bytes) in
    behind r start mid new (codes "      specification: ") (cut width whole ++ codes "\n") c.in_ok-push_mark.ensures
    (behind r mid (string_bytes c.push_cut.new.text) new (cut width whole) (codes "\n") (c.in_ok-push_cut.ensures ∙ ap (λ xs. mid ++ xs) told) c.push_mark-2.ensures)
