-- The first few states, and how many more there are.
use Rattle.std.proofs.Common.{◌≡◌, List, ◌++◌, length, map, take, sym, ◌∙◌, ap}
use Rattle.std.proofs.lemmas.List.{length-map, take-map}
use Rattle.std.specs.String.{string_bytes}
use Rattle.csp_term.specs.Term.{process_of}
use Rattle.csp_term.specs.declared.term.Term.{Term}
use Rattle.theory_explanation.specs.Counterparts.{more_line, specification_lines}
use Rattle.csp_print.specs.Names.{names_of}
use Rattle.csp_print.proofs.Writing.{alike, behind}
use Rattle.counterexample.specs.Widths.{width_of}
use Rattle.counterexample.proofs.specification.push_specification.Goals as goal

pub returns : goal.returns
returns g c =
    let names = names_of c.args.style.now.names.now in
    let width = width_of c.args.style.now.width in
    let few = c.args.style.now.few in
    let states = c.args.states.now in
    let r = c.push_more.result in
    let start = string_bytes c.args.text.now in
    let mid = string_bytes c.push_lines.new.text in
    let new = string_bytes c.push_more.new.text in
    let lines = specification_lines names width (take few (map process_of states)) in
    let first : specification_lines names width (map process_of c.first_few-first.result.now) ≡ lines =
    ap (λ (ts : List (Term g.row.A.Denot)). specification_lines names width (map process_of ts)) c.first_few-first.ensures ∙ ap (specification_lines names width) (sym (take-map process_of few states)) in
    behind r start mid new lines (more_line few (length (map process_of states))) (c.in_ok-push_lines.ensures ∙ ap (λ xs. start ++ xs) first)
    (alike r mid new _ _ (ap (more_line few) (sym (length-map states process_of))) c.push_more.ensures)
