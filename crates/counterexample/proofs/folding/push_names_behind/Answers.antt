use Rattle.std.proofs.Common.{◌≡◌, ◌<◌, ◌+◌, ℕ, List, ◌∷◌, ◌++◌, length, get_or, drop, ap, add-one, drop-cons}
use Rattle.std.proofs.lemmas.List.{drop_all}
use Rattle.std.specs.Prelude.{codes}
use Rattle.std.specs.String.{string_bytes}
use Rattle.theory_explanation.specs.Folding.{name_text, names_behind}
use Rattle.theory_notation.specs.Names.{Names}
use Rattle.csp_print.specs.Names.{names_of}
use Rattle.csp_print.proofs.Writing.{comes_to_end, goes_on_bare}
use Rattle.csp_term.specs.declared.name.EquationId.{EquationId}
use Rattle.counterexample.specs.Folding.{equations_listed}
use Rattle.counterexample.proofs.folding.push_names_behind.Goals as goal

abbrev texts : Names → List EquationId → List ℕ
texts names ns = names_behind names (equations_listed ns)

-- the names from the place on
names_left : (names : Names) (ns : List EquationId) (i : ℕ) (d : EquationId) → i < length ns → texts names (drop i ns) ≡ name_text names (codes ", ") (get_or ns i d).0 ++ texts names (drop (i + 1) ns)
names_left names ns i d low = let first : drop i ns ≡ get_or ns i d ∷ drop (i + 1) ns = rw add-one (drop-cons ns i d low) in ap (texts names) first

pub loop-equation-preserved : goal.loop-equation-preserved
loop-equation-preserved g c =
    let names = names_of c.args.names.now in
    let ns = c.args.equations.now in
    let i = c.loop-equation.equation-index in
    goes_on_bare (string_bytes c.loop-equation.text) (string_bytes c.push_name.new.text) _
    (texts names (drop i ns)) (texts names (drop (i + 1) ns)) (string_bytes c.args.text.now ++ texts names ns) c.loop-equation.invariant (names_left names ns i _ c.loop-equation-test.true) c.in_ok-push_name.ensures

pub returns : goal.returns
returns g c =
    let names = names_of c.args.names.now in
    let ns = c.args.equations.now in
    comes_to_end (string_bytes c.args.text.now) (string_bytes c.loop-equation.text) (texts names (drop c.loop-equation.equation-index ns)) (texts names ns)
    c.loop-equation.invariant (ap (texts names) (drop_all c.loop-equation.equation-index ns c.loop-equation-test.false))
