-- The first name stands behind its mark, and the others behind it.
use Rattle.std.proofs.Common.{List, ◌++◌, ap, sym}
use Rattle.std.specs.Prelude.{codes}
use Rattle.std.specs.String.{string_bytes}
use Rattle.csp_term.specs.declared.name.EquationId.{EquationId}
use Rattle.theory_explanation.specs.Folding.{name_text, names_behind, then_text}
use Rattle.csp_print.specs.Names.{names_of}
use Rattle.csp_print.proofs.Writing.{alike, behind}
use Rattle.counterexample.specs.Folding.{equations_listed}
use Rattle.counterexample.proofs.folding.push_then.Goals as goal

pub returns-in_ok-push_name-in-Some : goal.returns-in_ok-push_name-in-Some
returns-in_ok-push_name-in-Some g c =
    let names = names_of c.args.names.now in
    let r = c.push_names_behind.result in
    let start = string_bytes c.args.text.now in
    let all = string_bytes c.push_names_behind.new.text in
    let first = name_text names (codes ", then unfolds ") c.in-Some.first.now.0 in
    let others = names_behind names (equations_listed c.in-Some.others.now) in
    alike r start all _ _ (ap (λ (ns : List EquationId). then_text names (equations_listed ns)) (sym c.in-Some.ensures.cases.0))
    (behind r start (string_bytes c.push_name.new.text) all first others c.in_ok-push_name-in-Some.ensures c.push_names_behind.ensures)
