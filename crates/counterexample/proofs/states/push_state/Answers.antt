-- The indent, as much of the state as is told, and the end of the line.
use Rattle.std.proofs.Common.{◌≡◌, ◌++◌, ap, ◌∙◌}
use Rattle.std.specs.Prelude.{codes}
use Rattle.std.specs.String.{string_bytes}
use Rattle.csp_term.specs.Term.{process_of}
use Rattle.theory_notation.specs.Processes.{process_text}
use Rattle.theory_explanation.specs.Cutting.{cut}
use Rattle.csp_print.specs.Names.{names_of}
use Rattle.csp_print.proofs.Writing.{behind}
use Rattle.counterexample.specs.Widths.{width_of}
use Rattle.counterexample.proofs.states.push_state.Goals as goal

pub returns : goal.returns
returns g c =
    let width = width_of c.args.width in
    let r = c.push_mark-2.result in
    let start = string_bytes c.args.text.now in
    let mid = string_bytes c.push_mark.new.text in
    let all = string_bytes c.push_mark-2.new.text in
    let told = cut width (process_text (names_of c.args.names.now) (process_of c.args.state.now)) in
    let put : string_bytes c.push_cut.new.text ≡ mid ++ told = c.in_ok-push_cut.ensures ∙ ap (λ ts. mid ++ cut width ts) (c.as_str.ensures.value ∙ c.in_ok-whole.ensures) in
    behind r start mid all (codes "      ") (told ++ codes "\n") c.in_ok-push_mark.ensures (behind r mid (string_bytes c.push_cut.new.text) all told (codes "\n") put c.push_mark-2.ensures)
