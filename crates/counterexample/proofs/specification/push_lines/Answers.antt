use Rattle.std.proofs.Common.{List, ◌++◌, drop, ap, ◌∙◌, sym, ◌≡◌, ◌+◌, ◌∷◌, suc, add-one, drop-cons, map}
use Rattle.std.proofs.lemmas.List.{drop_all}
use Rattle.std.specs.String.{string_bytes}
use Rattle.csp_term.specs.declared.term.Term.{Term}
use Rattle.csp_term.specs.Term.{process_of}
use Rattle.theory_explanation.specs.Counterparts.{specification_line, specification_lines}
use Rattle.csp_print.specs.Names.{names_of}
use Rattle.csp_print.proofs.Writing.{comes_to_end, goes_on_bare}
use Rattle.counterexample.specs.Widths.{width_of}
use Rattle.counterexample.proofs.specification.push_lines.Goals as goal

pub loop-state-preserved : goal.loop-state-preserved
loop-state-preserved g c =
    let states = c.args.states.now in
    let i = c.loop-state.state-index in
    let names = names_of c.args.style.now.names.now in
    let width = width_of c.args.style.now.width in
    let texts = λ (ts : List (Term g.row.A.Denot)). specification_lines names width (map process_of ts) in
    let first : drop i states ≡ c.state-item.result ∷ drop (i + 1) states =
    rw add-one (drop-cons states i c.state-item.result c.loop-state-test.true ∙ ap (λ t. t ∷ drop (suc i) states) (sym c.state-item.is)) in
    goes_on_bare (string_bytes c.loop-state.text) (string_bytes c.push_line.new.text) (specification_line names width (process_of c.state-item.result))
    (texts (drop i states)) (texts (drop (i + 1) states)) (string_bytes c.args.text.now ++ texts states) c.loop-state.invariant (ap texts first) c.in_ok-push_line.ensures

pub returns : goal.returns
returns g c =
    let states = c.args.states.now in
    let texts = λ (ts : List (Term g.row.A.Denot)). specification_lines (names_of c.args.style.now.names.now) (width_of c.args.style.now.width) (map process_of ts) in
    comes_to_end (string_bytes c.args.text.now) (string_bytes c.loop-state.text) (texts (drop c.loop-state.state-index states)) (texts states)
    c.loop-state.invariant (ap texts (drop_all c.loop-state.state-index states c.loop-state-test.false))
