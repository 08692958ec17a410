use Rattle.std.proofs.Common.{◌∙◌}
use Rattle.csp_expression.specs.Expression.{expressions_of}
use Rattle.csp_term.specs.Term.{process_of}
use Rattle.csp_term.proofs.Forms.{of_call}
use Rattle.csp_spell.proofs.ReadingTerms.{call_found}
use Rattle.csp_spell.proofs.read_terms.read_call.Goals as goal

pub returns : goal.returns
returns g c =
    let arguments = c.in_ok-arguments.arguments in
    call_found c.args.depth c.args.bytes.now c.in_ok-equation.equation c.in_ok-equation.rest.now (expressions_of arguments.items) c.in_ok-arguments.rest.now (process_of c.in_ok-new.field-0) c.in_ok-equation.ensures c.in_ok-arguments.ensures (c.in_ok-new.ensures ∙ of_call g.row.A.Denot _ arguments)
