-- The sides that an operator looks at, whatever the script.
use Rattle.std.proofs.Common.{◌≡◌, sym, ◌∙◌, ap, subst}
use Rattle.theory_syntax.specs.Operators.{binary_process}
use Rattle.theory_syntax.specs.Process.{Process}
use Rattle.theory_faults.specs.Processes.{looked_at}
use Rattle.csp_term.proofs.Forms.{of_binary}
use Rattle.csp_term.specs.Script.{script_of_parts}
use Rattle.csp_term.specs.Term.{process_of, process_of_form}
use Rattle.csp_faults.specs.Parts.{AreParts}
use Rattle.csp_faults.proofs.parts.looked_at.Goals as goal

pub returns-in-Binary : goal.returns-in-Binary
returns-in-Binary g c =
    let s = script_of_parts c.args.script.now in
    let w = c.in-Binary in
    let is : process_of c.args.term.now ≡ binary_process w.operator (process_of w.left) (process_of w.right) = sym c.form.ensures ∙ ap process_of_form w.is ∙ of_binary g.row.A.Denot w.operator w.left w.right in
    let P : Process → Type 0 = λ p. AreParts c.sides.result (looked_at s p) in
    subst P (sym is) (c.sides.ensures s)
