-- Both sides of each assertion are terms of the script.
use Rattle.std.proofs.Common.{List, subst, sym}
use Rattle.std.specs.List.{All}
use Rattle.theory_syntax.specs.Process as pure
use Rattle.csp_term.specs.declared.assertion.Assertion.{Assertion}
use Rattle.csp_term.specs.Script.{HasSidesOf, script_of_parts}
use Rattle.csp_term.proofs.Sides.{have_sides}
use Rattle.csp_term.proofs.checked_script.Script.assertions.Goals as goal

pub returns-clause-sides : goal.returns-clause-sides
returns-clause-sides g c =
    let parts = c.self.inside.parts in
    let kinds = c.self.invariant in
    let P : pure.Script → Type 0 = λ s. All (HasSidesOf s) parts.assertions.items in
    let Q : List (Assertion g.row.A.Denot) → Type 0 = λ xs. All (HasSidesOf c.args.self.now) xs in
    subst Q (sym c.as_slice.ensures.value) (subst P c.self.view_is (have_sides (script_of_parts parts) kinds.0 kinds.1 parts.assertions.items kinds.1.assertions))
