-- Two terms with an operator between are the process of both.
use Rattle.std.proofs.Common.{◌∙◌, ap, sym}
use Rattle.theory_checking.specs.Resolving.{infix_process}
use Rattle.csp_parse.specs.Processes.{infix_of}
use Rattle.csp_term.specs.Term.{process_of}
use Rattle.csp_term.proofs.Forms as made
use Rattle.csp_names.proofs.Forms.{infix_term}
use Rattle.csp_names.proofs.terms.joined.Goals as goal

pub returns-in-Operator : goal.returns-in-Operator
returns-in-Operator g c =
    let p = process_of c.args.left in
    let q = process_of c.args.right in
    made.of_binary g.row.A.Denot c.in-Operator.operator c.args.left c.args.right ∙ infix_term c.in-Operator.operator p q
    ∙ ap (λ op. infix_process (infix_of op) p q) (sym c.in-Operator.is)

pub returns-in-Sliding : goal.returns-in-Sliding
returns-in-Sliding g c =
    made.of_sliding g.row.A.Denot c.args.left c.args.right ∙ ap (λ op. infix_process (infix_of op) (process_of c.args.left) (process_of c.args.right)) (sym c.in-Sliding.is)
