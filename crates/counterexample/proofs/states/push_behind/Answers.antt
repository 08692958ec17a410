-- The indent, what is told of the state, and the end of the line.
use Rattle.std.proofs.Common.{◌≡◌, ◌++◌, ap, ◌∙◌}
use Rattle.std.specs.Prelude.{codes}
use Rattle.std.specs.String.{string_bytes}
use Rattle.csp_term.specs.Term.{process_of}
use Rattle.theory_notation.specs.Processes.{process_text}
use Rattle.theory_explanation.specs.Steps.{told_behind}
use Rattle.csp_print.specs.Names.{names_of}
use Rattle.csp_print.proofs.Writing.{behind}
use Rattle.counterexample.specs.Widths.{width_of}
use Rattle.counterexample.proofs.states.push_behind.Goals as goal

pub returns : goal.returns
returns g c =
    let width = width_of c.args.width in
    let names = names_of c.args.names.now in
    let old = process_text names (process_of c.args.before.now) in
    let new = process_text names (process_of c.args.state.now) in
    let r = c.push_mark-2.result in
    let start = string_bytes c.args.text.now in
    let mid = string_bytes c.push_mark.new.text in
    let all = string_bytes c.push_mark-2.new.text in
    let told = told_behind width old new in
    let put : string_bytes c.push_told.new.text ≡ mid ++ told =
    c.in_ok-push_told.ensures ∙ ap (λ ts. mid ++ told_behind width ts c.as_str-2.result.now) (c.as_str.ensures.value ∙ c.in_ok-old.ensures)
    ∙ ap (λ ts. mid ++ told_behind width old ts) (c.as_str-2.ensures.value ∙ c.in_ok-new.ensures) in
    behind r start mid all (codes "      ") (told ++ codes "\n") c.in_ok-push_mark.ensures (behind r mid (string_bytes c.push_told.new.text) all told (codes "\n") put c.push_mark-2.ensures)
